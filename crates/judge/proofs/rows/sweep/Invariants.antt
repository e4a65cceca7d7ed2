use Rattle.std.proofs.Common.{length}
use Rattle.lassos.proofs.Rows.{Sweeping}
use Rattle.judge.proofs.rows.sweep.Given as goal

abbrev pub invariant-loop-i : goal.invariant-loop-i
invariant-loop-i l = Sweeping l.dual l.next l.value l.fn.row l.row l.goal (length l.fn.row) l.i
