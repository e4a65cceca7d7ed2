use Rattle.std.proofs.Common.{◌≡◌, ◌+◌, ◌++◌, length, take, drop}
use Rattle.std.specs.List.{flat_map}
use Rattle.printing.specs.Text.{entry_line}
use Rattle.printing.proofs.writing.put_entries.Given as goal

-- where the lines that are left come to end, and that putting them gives what putting all gives
abbrev pub invariant-loop-entry : goal.invariant-loop-entry
invariant-loop-entry g l =
    let lines = flat_map (entry_line (g.D.Named.names l.dialogue)) l.entries in
    let left = flat_map (entry_line (g.D.Named.names l.dialogue)) (drop l.entry-index l.entries) in
    let end = l.start + length lines in
    (l.at + length left ≡ end) × (take l.at l.out ++ (left ++ drop end l.out) ≡ take l.start l.initial.out ++ (lines ++ drop end l.initial.out))
