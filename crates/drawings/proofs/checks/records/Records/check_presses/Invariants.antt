use Rattle.std.proofs.Common.{◌≡◌, ◌-◌, ◌≤◌, length}
use Rattle.tables.specs.Files.{press_place, tail_fault}
use Rattle.drawings.proofs.checks.records.Records.check_presses.Given as goal

abbrev pub invariant-loop-k : goal.invariant-loop-k
invariant-loop-k l =
    (tail_fault l.self.bytes.now l.self.states l.self.events (length l.self.bytes.now - l.k) l.k ≡ tail_fault l.self.bytes.now l.self.states l.self.events (length l.self.bytes.now) 0)
    × (press_place l.self.states l.k ≤ length l.self.bytes.now)

abbrev pub decreases-loop-k : goal.decreases-loop-k
decreases-loop-k l = length l.initial.self.bytes.now - l.k
