use Rattle.std.proofs.Common.{Some, sym, ◌∙◌, arith}
use Rattle.drawings.proofs.Rows.{redirects_to, joins}
use Rattle.drawings.proofs.drawing.Drawing.join.Goals as goal

pub returns-clause-leaves : goal.returns-clause-leaves
returns-clause-leaves c =
    let d = c.args.self.now in
    let x = c.set_next.ensures in
    redirects_to d.count d.states c.args.from c.args.event (Some c.args.to) c.set_next.new.self (omega arith) x.start x.label x.next (omega arith) (omega arith)
    ∙ joins d.count d.states c.args.from c.args.event c.args.to (omega arith) (omega arith) (omega arith) (sym c.is_some.ensures ∙ c.if-is_some.false)
