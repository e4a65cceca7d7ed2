use Rattle.std.proofs.Common.{sym, ◌∙◌, arith}
use Rattle.drawings.proofs.Rows.{adds}
use Rattle.drawings.proofs.drawing.Drawing.add.Goals as goal

pub returns-clause-leaves : goal.returns-clause-leaves
returns-clause-leaves c =
    let d = c.args.self.now in
    adds d.count d.states c.args.label c.args.start c.in_ok-start.start c.new.result (omega arith) (omega arith) (sym c.start_mark.ensures ∙ c.in_ok-start.was)
    c.new.ensures.start c.new.ensures.label c.new.ensures.next
