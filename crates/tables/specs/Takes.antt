-- Taking a file into a drawing.
use Rattle.std.specs.Prelude.{ℕ, cond, ◌&&◌, List, Some, None, Ok, Err, Option, Result, ◌==◌, nat_le}
use Rattle.faults.specs.declared.Fault.{Fault}
use Rattle.faults.specs.declared.Cause.TheVariants.{DrawingFull}
use Rattle.tables.specs.Table.{Table}
use Rattle.tables.specs.Drawings.{refused, after}
use Rattle.tables.specs.Files.{fault_of, file_states, file_events, file_table}

-- a fault comes first
abbrev pub unless_bad : {A : Type 0} → Option Fault → Result A Fault → Result A Fault
unless_bad None r = r
unless_bad (Some f) r = Err f

-- The file's own fault passes through whole. Then it must have at most 64 states, and 16 events.
abbrev pub take_answer : List ℕ → Result (Unit {0}) Fault
take_answer bytes =
    unless_bad (fault_of bytes) (cond (nat_le (file_states bytes) 64 && file_events bytes == 16) (Ok tt) (refused DrawingFull (file_states bytes)))

abbrev pub after_take : Table → List ℕ → Table
after_take table bytes = after (take_answer bytes) (file_table bytes) table
