-- The file that a drawing writes: a header, the states by number, the presses by state and event, and the end.
use Rattle.std.specs.Prelude.{◌≡◌, ℕ, zero, suc, ◌+◌, ◌*◌, ◌/◌, ◌%◌, cond, List, [], ◌∷◌, ◌++◌, length, take, drop, Some, None, Ok, Option, Result, nat_le}
use Rattle.std.specs.List.{range_with_len, flat_map}
use Rattle.faults.specs.declared.Fault.{Fault}
use Rattle.faults.specs.declared.Cause.TheVariants.{ListTooShort}
use Rattle.tables.specs.Table.{Table}
use Rattle.tables.specs.Drawings.{refused}
use Rattle.tables.specs.Files.{fault_of, file_table}
use Rattle.tables.specs.Takes.{after_take}

pub record Press : Type 0 where
  pub from : ℕ
  pub event : ℕ
  pub to : ℕ

abbrev pub header_bytes : Table → List ℕ
header_bytes table = 68 ∷ 72 ∷ table.states % 256 ∷ table.states / 256 ∷ 16 ∷ []

abbrev pub state_bytes : Table → ℕ → List ℕ
state_bytes table s = 68 ∷ 83 ∷ table.label s % 256 ∷ table.label s / 256 ∷ cond (table.start s) 1 0 ∷ []

abbrev pub press_bytes : Press → List ℕ
press_bytes p = 68 ∷ 80 ∷ p.from % 256 ∷ p.from / 256 ∷ p.event ∷ p.to % 256 ∷ p.to / 256 ∷ []

abbrev pub press_here : ℕ → ℕ → Option ℕ → List Press
press_here s e None = []
press_here s e (Some t) = record { from = s; event = e; to = t } ∷ []

-- the presses among the first i pairs of a state and an event, in their order
abbrev pub presses : Table → ℕ → List Press
presses table zero = []
presses table (suc i) = presses table i ++ press_here (i / 16) (i % 16) (table.next (i / 16) (i % 16))

-- the header and the first s states
abbrev pub front_bytes : Table → ℕ → List ℕ
front_bytes table s = header_bytes table ++ flat_map (state_bytes table) (range_with_len 0 s)

-- all states, and the presses among the first i pairs
abbrev pub body_bytes : Table → ℕ → List ℕ
body_bytes table i = front_bytes table table.states ++ flat_map press_bytes (presses table i)

abbrev pub file_of : Table → List ℕ
file_of table = body_bytes table (table.states * 16) ++ (68 ∷ 90 ∷ [])

-- Write answers the number of bytes, if the list has room for them. The bytes behind them stay.
abbrev pub write_answer : Table → List ℕ → Result ℕ Fault
write_answer table out = cond (nat_le (length (file_of table)) (length out)) (Ok (length (file_of table))) (refused ListTooShort 1)

abbrev pub with_front : List ℕ → List ℕ → List ℕ
with_front front out = front ++ drop (length front) out

-- a piece written over a list from a place on
abbrev pub pasted : ℕ → List ℕ → List ℕ → List ℕ
pasted at piece out = take at out ++ (piece ++ drop (at + length piece) out)

abbrev pub after_write : Table → List ℕ → List ℕ
after_write table out = cond (nat_le (length (file_of table)) (length out)) (with_front (file_of table) out) out

-- the bytes of the i-th pair of a state and an event
abbrev pub pair_bytes : Table → ℕ → List ℕ
pair_bytes table i = flat_map press_bytes (press_here (i / 16) (i % 16) (table.next (i / 16) (i % 16)))

-- What is written is an accepted file with the table that was written, and taking it gives that table back.
pub record ReadsBack (table : Table) : Type 0 where
  pub accepted : fault_of (file_of table) ≡ None
  pub same : file_table (file_of table) ≡ table
  pub taken : (before : Table) → after_take before (file_of table) ≡ table
