use Rattle.lassos.proofs.Rows.{Rows}
use Rattle.judge.proofs.rows.evaluate.Given as goal

abbrev pub invariant-loop-index : goal.invariant-loop-index
invariant-loop-index g l = Rows l.parts (g.L.Labels.list l.labels) l.shape.lead_in l.work l.index
