use Rattle.std.proofs.Common.{length, get_or}
use Rattle.lassos.specs.Truth.{has}
use Rattle.lassos.proofs.Rows.{Rising}
use Rattle.judge.proofs.rows.letter_row.Given as goal

abbrev pub invariant-loop-i : goal.invariant-loop-i
invariant-loop-i g l = Rising l.row (length (g.L.Labels.list l.fn.labels)) l.i (λ i. has (get_or (g.L.Labels.list l.fn.labels) i 0) l.letter)
