use Rattle.lassos.specs.Lasso.{after}
use Rattle.lassos.proofs.Rows.{Rising, lit, prefix_start}
use Rattle.judge.proofs.rows.start_prefix.Given as goal

abbrev pub invariant-loop-i : goal.invariant-loop-i
invariant-loop-i l = Rising l.row l.shape.count l.i (λ i. prefix_start l.op (lit l.operand i) (lit l.operand (after l.shape.count l.shape.lead_in i)))
