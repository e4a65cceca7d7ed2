-- What the states of a drawing say, each by its number.
use Rattle.std.specs.Prelude.{◌≡◌, ℕ, ◌<◌, Bool, false, List, [], length, None, Option, slice_index_or}
use Rattle.tables.specs.Table.{Table}
use Rattle.drawings.specs.declared.drawing.state.State.{State}

-- what stands behind the last state
abbrev pub blank_state : State
blank_state = record { start = false; label = 0; next = [] }

abbrev pub state_at : List State → ℕ → State
state_at states s = slice_index_or states s blank_state

abbrev pub start_at : List State → ℕ → Bool
start_at states s = (state_at states s).start

abbrev pub label_at : List State → ℕ → ℕ
label_at states s = (state_at states s).label

abbrev pub next_at : List State → ℕ → ℕ → Option ℕ
next_at states s e = slice_index_or (state_at states s).next e None

-- a state that says what a table of 16 events says of its state s
pub record IsCopy (table : Table) (s : ℕ) (x : State) : Type 0 where
  pub start : x.start ≡ table.start s
  pub label : x.label ≡ table.label s
  pub long : length x.next ≡ 16
  pub next : (e : ℕ) → e < 16 → slice_index_or x.next e None ≡ table.next s e
