-- The lists that the console lends.
use Rattle.std.specs.Prelude.{◌≡◌, ℕ, ◌≤◌, List, length, take, Some, None, Option}
use Rattle.unfolding.specs.declared.Press.{Press}
use Rattle.search.specs.declared.lists.Lengths.{Lengths}
use Rattle.search.specs.declared.records.Lasso.{Lasso}
use Rattle.printing.specs.declared.answer.Answer.{Answer}
use Rattle.printing.specs.declared.answer.Answer.TheVariants.{Holds, Refused, Broken}

-- names of at most 8 bytes
abbrev pub Brief : (ℕ → List ℕ) → Type 0
Brief names = (e : ℕ) → length (names e) ≤ 8

-- lists for 512 nodes, presses for ten locations, and room for their text
pub record Room (lists : Lengths) (presses out : ℕ) : Type 0 where
  pub marks_are : lists.marks ≡ 512
  pub slots_are : lists.slots ≡ 512
  pub trail_is : lists.trail ≡ 512
  pub roots_are : lists.roots ≡ 512
  pub presses_are : presses ≡ 5120
  pub out_is : out ≡ 76824

-- the entries of a lasso are there
abbrev pub Held : Option Lasso → ℕ → Type 0
Held None n = Unit {0}
Held (Some l) n = l.len ≤ n

-- what a check found, as an answer
abbrev pub Tells : Option Lasso → List Press → Answer → Type 0
Tells None entries Holds = Unit {0}
Tells None entries (Refused fault) = ⊥
Tells None entries (Broken u found) = ⊥
Tells (Some l) entries Holds = ⊥
Tells (Some l) entries (Refused fault) = ⊥
Tells (Some l) entries (Broken u found) = (u ≡ l.lead) × (found.now ≡ take l.len entries)
