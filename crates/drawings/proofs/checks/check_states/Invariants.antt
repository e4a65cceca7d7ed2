use Rattle.std.proofs.Common.{◌≡◌, ◌≤◌, length, None}
use Rattle.tables.specs.Files.{state_place, states_fault}
use Rattle.drawings.proofs.checks.check_states.Given as goal

abbrev pub invariant-loop-i : goal.invariant-loop-i
invariant-loop-i l = (states_fault l.bytes l.i ≡ None) × (state_place l.i ≤ length l.bytes)
