use Rattle.std.proofs.Common.{◌≡◌, ◌+◌, length, drop}
use Rattle.std.specs.List.{flat_map}
use Rattle.printing.specs.Text.{entry_line}
use Rattle.printing.proofs.writing.entries_fit.Given as goal

abbrev pub invariant-loop-entry : goal.invariant-loop-entry
invariant-loop-entry g l = length (flat_map (entry_line (g.D.Named.names l.dialogue)) l.entries) + l.left ≡ l.room + length (flat_map (entry_line (g.D.Named.names l.dialogue)) (drop l.entry-index l.entries))
