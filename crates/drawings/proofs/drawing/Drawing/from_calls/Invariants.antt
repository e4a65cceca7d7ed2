use Rattle.std.proofs.Common.{◌≡◌, take}
use Rattle.drawings.specs.Calls.{spelled}
use Rattle.drawings.specs.Drawn.{drawn}
use Rattle.drawings.proofs.drawing.Drawing.from_calls.Given as goal

abbrev pub invariant-loop-call : goal.invariant-loop-call
invariant-loop-call l = drawn l.drawing ≡ spelled (take l.call-index l.calls)
