use Rattle.std.proofs.Common.{◌≡◌, ◌+◌, ◌*◌, ◌≤◌, length}
use Rattle.tables.specs.Writes.{presses}
use Rattle.drawings.specs.Drawn.{drawn}
use Rattle.drawings.proofs.drawing.Drawing.count_presses.Given as goal

abbrev pub invariant-loop-state : goal.invariant-loop-state
invariant-loop-state l = (l.total ≡ length (presses (drawn l.self) (l.state * 16))) × (l.total ≤ l.state * 16)

abbrev pub invariant-loop-event : goal.invariant-loop-event
invariant-loop-event l = (l.total ≡ length (presses (drawn l.self) (l.state * 16 + l.event))) × (l.total ≤ l.state * 16 + l.event)
