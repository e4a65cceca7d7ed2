-- How a drawing keeps its table: a count, and of each state by number a start mark, a label, and the next state of each event.
use Rattle.std.specs.Prelude.{◌≡◌, ℕ, ◌<◌, Bool, false, cond, ◌&&◌, Some, None, Option, nat_lt}
use Rattle.tables.specs.Table.{Table}

abbrev pub cells : ℕ → (ℕ → Bool) → (ℕ → ℕ) → (ℕ → ℕ → Option ℕ) → Table
cells count start label next =
    record {
      states = count;
      events = 16;
      start = λ s. cond (nat_lt s count) (start s) false;
      label = λ s. cond (nat_lt s count) (label s) 0;
      next = λ s e. cond (nat_lt s count && nat_lt e 16) (next s e) None;
    }

-- each next state exists
abbrev pub Within : ℕ → (ℕ → ℕ → Option ℕ) → Type 0
Within count next = (s e t : ℕ) → next s e ≡ Some t → t < count
