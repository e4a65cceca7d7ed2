-- What a dialogue means: a table of numbered states and events.
use Rattle.std.specs.Prelude.{◌≡◌, ℕ, ◌^◌, ◌<◌, ◌≤◌, Bool, false, Some, None, Option}

-- How many states and events there are, which states are starts, the label of each state (bit 0 is letter a, bit 15 letter p), and for
-- each state and event the next state, if there is one.
pub record Table : Type 0 where
  pub states : ℕ
  pub events : ℕ
  pub start : ℕ → Bool
  pub label : ℕ → ℕ
  pub next : ℕ → ℕ → Option ℕ

-- The limits of every dialogue, and what it answers of states and events that do not exist.
pub record Formed (table : Table) : Type 0 where
  pub few_states : table.states ≤ 65536
  pub few_events : table.events ≤ 64
  pub label_fits : (s : ℕ) → table.label s < 2 ^ 16
  pub next_exists : (s e t : ℕ) → table.next s e ≡ Some t → t < table.states
  pub absent_start : (s : ℕ) → table.states ≤ s → table.start s ≡ false
  pub absent_label : (s : ℕ) → table.states ≤ s → table.label s ≡ 0
  pub absent_state : (s e : ℕ) → table.states ≤ s → table.next s e ≡ None
  pub absent_event : (s e : ℕ) → table.events ≤ e → table.next s e ≡ None

-- A press: event e leads from state s to state t. Whatever is said of presses anywhere rests on this.
abbrev pub Leads : Table → ℕ → ℕ → ℕ → Type 0
Leads table s e t = table.next s e ≡ Some t

-- m events and no states
abbrev pub stateless : ℕ → Table
stateless m = record { states = 0; events = m; start = λ _. false; label = λ _. 0; next = λ _ _. None }

-- the empty dialogue
abbrev pub empty : Table
empty = stateless 0
