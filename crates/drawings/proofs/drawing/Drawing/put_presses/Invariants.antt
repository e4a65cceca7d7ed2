use Rattle.std.proofs.Common.{◌+◌, ◌*◌}
use Rattle.drawings.specs.Drawn.{drawn}
use Rattle.drawings.proofs.Presses.{Put}
use Rattle.drawings.proofs.drawing.Drawing.put_presses.Given as goal

abbrev pub invariant-loop-state : goal.invariant-loop-state
invariant-loop-state l = Put (drawn l.self) l.fn.out l.out l.at (l.state * 16)

abbrev pub invariant-loop-event : goal.invariant-loop-event
invariant-loop-event l = Put (drawn l.self) l.fn.out l.out l.at (l.state * 16 + l.event)
