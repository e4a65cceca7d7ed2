use Rattle.std.proofs.Common.{◌≡◌, ℕ, ◌<◌, length}
use Rattle.drawings.specs.Rows.{state_at, IsCopy}
use Rattle.drawings.proofs.drawing.copies.states_of.Given as goal

abbrev pub invariant-loop-s : goal.invariant-loop-s
invariant-loop-s g l = (length l.state-items ≡ 64) × ((s : ℕ) → s < l.s → IsCopy (g.D.Dialogue.table l.dialogue) s (state_at l.state-items s))
