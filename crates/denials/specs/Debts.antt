-- What the debts of a rule's locations say.
use Rattle.std.specs.Prelude.{◌≡◌, ℕ, ◌<◌, false, List, length, slice_index_or}
use Rattle.formulas.specs.declared.Part.{Part as Row}
use Rattle.formulas.specs.Formula.{Formula}
use Rattle.formulas.specs.Table.{whole_formula}
use Rattle.components.specs.Bits.{has}
use Rattle.unfolding.specs.Pushed.{locations, owes, due, promise, promising}
use Rattle.unfolding.specs.Smallest.{mentions}
use Rattle.denials.specs.declared.signed.Signed.{Signed}
use Rattle.denials.specs.declared.signed.Due.{Due}
use Rattle.denials.specs.declared.signed.Debt.{Debt}
use Rattle.denials.specs.Signs.{part_of}

-- what is due for a part
pub record Follows (rows : List Row) (part : Signed) (r : Due) : Type 0 where
  pub is : part_of rows r.part ≡ due (part_of rows part)
  pub promises : r.promise ≡ promising (part_of rows part)
  pub within : r.part.index < length rows

-- what location k of a rule owes
pub record Owing (rows : List Row) (k : ℕ) (r : Due) : Type 0 where
  pub is : k < locations (whole_formula rows) → part_of rows r.part ≡ owes (whole_formula rows) k
  pub promises : k < locations (whole_formula rows) → r.promise ≡ promise (whole_formula rows) k
  pub within : r.part.index < length rows

abbrev pub no_debt : Debt
no_debt = record { part = record { index = 0; sign = false }; mentions = 0 }

-- each debt is a part of the table
abbrev pub Placed : List Row → Formula → List Debt → Type 0
Placed rows f debts = (k : ℕ) → k < locations f → (slice_index_or debts k no_debt).part.index < length rows

-- it is what its location owes
abbrev pub Owes : List Row → Formula → List Debt → Type 0
Owes rows f debts = (k : ℕ) → k < locations f → part_of rows (slice_index_or debts k no_debt).part ≡ owes f k

-- it tells the locations that this mentions
abbrev pub Mentions : Formula → List Debt → Type 0
Mentions f debts = (k l : ℕ) → k < locations f → l < 32 → has (slice_index_or debts k no_debt).mentions l ≡ mentions (owes f k) l

-- the set of the promises
abbrev pub Promises : Formula → ℕ → Type 0
Promises f promises = (k : ℕ) → k < locations f → has promises k ≡ promise f k
