-- What reading a file comes to.
use Rattle.std.specs.Prelude.{◌≡◌, ℕ, List, Some, None, Ok, Err, Result}
use Rattle.faults.specs.declared.Fault.{Fault}
use Rattle.tables.specs.Files.{Layout, fault_of}
use Rattle.drawings.specs.declared.checks.Outline.{Outline}

-- a bad file's fault, or the numbers of states, events and presses of a good one
abbrev pub Outlined : List ℕ → Result Outline Fault → Type 0
Outlined bytes (Ok o) = (fault_of bytes ≡ None) × Layout bytes o.states o.events o.presses
Outlined bytes (Err f) = fault_of bytes ≡ Some f
