use Rattle.std.proofs.Common.{◌≡◌, ◌++◌, take}
use Rattle.std.specs.List.{range_with_len, flat_map}
use Rattle.tables.specs.Writes.{state_bytes, with_front}
use Rattle.drawings.specs.Drawn.{drawn}
use Rattle.drawings.proofs.drawing.Drawing.put_states.Given as goal

abbrev pub invariant-loop-state : goal.invariant-loop-state
invariant-loop-state l = l.out ≡ with_front (take 5 l.initial.out ++ flat_map (state_bytes (drawn l.self)) (range_with_len 0 l.state)) l.initial.out
