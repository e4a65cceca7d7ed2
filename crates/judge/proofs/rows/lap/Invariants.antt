use Rattle.lassos.proofs.Rows.{Lapping}
use Rattle.judge.proofs.rows.lap.Given as goal

abbrev pub invariant-loop-i : goal.invariant-loop-i
invariant-loop-i l = Lapping l.dual l.value l.row l.goal l.fn.shape.count l.fn.shape.lead_in l.i
