use Rattle.std.proofs.Common.{None, not, ap, ◌∙◌, arith}
use Rattle.drawings.proofs.Rows.{redirects_to, cuts}
use Rattle.drawings.proofs.drawing.Drawing.cut.Goals as goal

pub returns-clause-leaves : goal.returns-clause-leaves
returns-clause-leaves c =
    let d = c.args.self.now in
    let x = c.set_next.ensures in
    redirects_to d.count d.states c.args.from c.args.event None c.set_next.new.self (omega arith) x.start x.label x.next (omega arith) (omega arith)
    ∙ cuts d.count d.states c.args.from c.args.event (omega arith) (omega arith) (c.is_none.ensures ∙ ap not c.if-is_none.false)
