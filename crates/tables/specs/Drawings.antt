-- Drawings: what each call answers and what it leaves, in terms of the table so far. A drawing has 16 events and up to 64 states. Arguments
-- are counted from 1. A refused call alters nothing.
use Rattle.std.specs.Prelude.{ℕ, ◌+◌, Bool, cond, ◌&&◌, List, [], ◌∷◌, is_some, Some, None, Ok, Err, codes, Option, Result, ◌==◌, nat_le, nat_lt, slice_index_or}
use Rattle.faults.specs.declared.Fault.{Fault}
use Rattle.faults.specs.declared.Cause.{Cause}
use Rattle.faults.specs.declared.Cause.TheVariants.{NoSuchArgument, DrawingFull, AlreadyJoined, NotJoined}
use Rattle.faults.specs.declared.Layer.TheVariants.{Drawing}
use Rattle.tables.specs.Table.{Table, stateless}

abbrev pub drawing_fault : Cause → ℕ → Fault
drawing_fault cause place = record { cause = cause; place = place; layer = Drawing }

abbrev pub refused : {A : Type 0} → Cause → ℕ → Result A Fault
refused cause place = Err (drawing_fault cause place)

-- what stands after a call that gave this answer
abbrev pub after : {A : Type 0} → Result A Fault → Table → Table → Table
after (Ok _) done table = done
after (Err _) done table = table

-- a new drawing, and one that was wiped
abbrev pub blank : Table
blank = stateless 16

-- One more state at the end, with no next states.
abbrev pub appended : Table → ℕ → Bool → Table
appended table label start =
    record {
      states = table.states + 1;
      events = table.events;
      start = λ s. cond (s == table.states) start (table.start s);
      label = λ s. cond (s == table.states) label (table.label s);
      next = λ s e. cond (s == table.states) None (table.next s e);
    }

-- Another label and start mark at one state; all next states stay.
abbrev pub relabelled : Table → ℕ → ℕ → Bool → Table
relabelled table state label start =
    record {
      states = table.states;
      events = table.events;
      start = λ s. cond (s == state) start (table.start s);
      label = λ s. cond (s == state) label (table.label s);
      next = table.next;
    }

-- Another answer for one state and event.
abbrev pub redirected : Table → ℕ → ℕ → Option ℕ → Table
redirected table from event to =
    record {
      states = table.states;
      events = table.events;
      start = table.start;
      label = table.label;
      next = λ s e. cond (s == from && e == event) to (table.next s e);
    }

-- Add takes a label and a start mark, which is 0 or 1, and answers the number of the new state. There is room for 64.
abbrev pub add_answer : Table → ℕ → Result ℕ Fault
add_answer table mark =
    cond (nat_le mark 1) (cond (nat_lt table.states 64) (Ok table.states) (refused DrawingFull 64)) (refused NoSuchArgument 2)

abbrev pub after_add : Table → ℕ → ℕ → Table
after_add table label mark = after (add_answer table mark) (appended table label (mark == 1)) table

-- Relabel takes a state, its new label and its new start mark.
abbrev pub relabel_answer : Table → ℕ → ℕ → Result (Unit {0}) Fault
relabel_answer table state mark =
    cond (nat_lt state table.states) (cond (nat_le mark 1) (Ok tt) (refused NoSuchArgument 3)) (refused NoSuchArgument 1)

abbrev pub after_relabel : Table → ℕ → ℕ → ℕ → Table
after_relabel table state label mark = after (relabel_answer table state mark) (relabelled table state label (mark == 1)) table

-- Join takes a state, an event and the next state, where there is none yet.
abbrev pub join_answer : Table → ℕ → ℕ → ℕ → Result (Unit {0}) Fault
join_answer table from event to =
    cond (nat_lt from table.states)
    (cond (nat_lt event table.events)
    (cond (nat_lt to table.states) (cond (is_some (table.next from event)) (refused AlreadyJoined from) (Ok tt)) (refused NoSuchArgument 3))
    (refused NoSuchArgument 2))
    (refused NoSuchArgument 1)

abbrev pub after_join : Table → ℕ → ℕ → ℕ → Table
after_join table from event to = after (join_answer table from event to) (redirected table from event (Some to)) table

-- Cut takes a state and an event that have a next state, and removes it.
abbrev pub cut_answer : Table → ℕ → ℕ → Result (Unit {0}) Fault
cut_answer table from event =
    cond (nat_lt from table.states)
    (cond (nat_lt event table.events)
    (cond (is_some (table.next from event)) (Ok tt) (refused NotJoined from))
    (refused NoSuchArgument 2))
    (refused NoSuchArgument 1)

abbrev pub after_cut : Table → ℕ → ℕ → Table
after_cut table from event = after (cut_answer table from event) (redirected table from event None) table

-- The names of the events.
abbrev pub keys : List (List ℕ)
keys =
    codes "Service" ∷ codes "Adult" ∷ codes "Child" ∷ codes "Return" ∷ codes "Single" ∷ codes "Card" ∷ codes "Lift" ∷ codes "Tag" ∷ codes "Cash" ∷ codes "Change" ∷ codes "Print" ∷ codes "Cancel" ∷ codes "Stage" ∷ codes "Login" ∷ codes "Logout" ∷ codes "Timeout" ∷ []

abbrev pub key_name : ℕ → List ℕ
key_name e = slice_index_or keys e []
