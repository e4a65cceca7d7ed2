use Rattle.std.proofs.Common.{sym, ◌∙◌, arith}
use Rattle.drawings.proofs.Rows.{relabels_to}
use Rattle.drawings.proofs.drawing.Drawing.relabel.Goals as goal

pub returns-clause-leaves : goal.returns-clause-leaves
returns-clause-leaves c =
    let d = c.args.self.now in
    relabels_to d.count d.states c.args.state c.args.label c.args.start c.in_ok-start.start (omega arith) (omega arith) (sym c.start_mark.ensures ∙ c.in_ok-start.was)
