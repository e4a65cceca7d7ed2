use Rattle.std.proofs.Common.{length}
use Rattle.lassos.proofs.Rows.{Rising, lit, infix_start}
use Rattle.judge.proofs.rows.start_infix.Given as goal

abbrev pub invariant-loop-i : goal.invariant-loop-i
invariant-loop-i l = Rising l.row (length l.fn.row) l.i (λ i. infix_start l.op (lit l.left i) (lit l.right i))
