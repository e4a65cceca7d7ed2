-- Signed parts of a rule's table, and what they are when negation is pushed down.
use Rattle.std.specs.Prelude.{◌≡◌, ℕ, ◌<◌, Bool, false, List, length, Some, None, Option, ◌==◌}
use Rattle.formulas.specs.declared.Part.{Part as Row}
use Rattle.unfolding.specs.Pushed as tree
use Rattle.unfolding.specs.Flat.{pushed, seek}
use Rattle.denials.specs.declared.signed.Signed.{Signed}
use Rattle.denials.specs.declared.signed.Pushed.{Pushed}
use Rattle.denials.specs.declared.signed.Pushed.TheVariants.{Fixed, Literal, Same, Both, Either, Next, Finally, Globally, Until, Release}

-- the pushed part that a signed part of the table stands for
abbrev pub part_of : List Row → Signed → tree.Part
part_of rows s = pushed rows s.index s.sign

-- the same, one level at a time
abbrev pub stands_for : List Row → Pushed → tree.Part
stands_for rows (Fixed b) = tree.fixed b
stands_for rows (Literal b a) = tree.literal b a
stands_for rows (Same f) = part_of rows f
stands_for rows (Both f g) = tree.both (part_of rows f) (part_of rows g)
stands_for rows (Either f g) = tree.either (part_of rows f) (part_of rows g)
stands_for rows (Next k f) = tree.next k (part_of rows f)
stands_for rows (Finally k f) = tree.finally k (part_of rows f)
stands_for rows (Globally k f) = tree.globally k (part_of rows f)
stands_for rows (Until k f g) = tree.until k (part_of rows f) (part_of rows g)
stands_for rows (Release k f g) = tree.release k (part_of rows f) (part_of rows g)

-- operands stand below n, and a letter is one of a to p
abbrev pub Below : ℕ → Pushed → Type 0
Below n (Fixed b) = Unit {0}
Below n (Literal b a) = a < 16
Below n (Same f) = f.index < n
Below n (Both f g) = (f.index < n) × (g.index < n)
Below n (Either f g) = (f.index < n) × (g.index < n)
Below n (Next k f) = f.index < n
Below n (Finally k f) = f.index < n
Below n (Globally k f) = f.index < n
Below n (Until k f g) = (f.index < n) × (g.index < n)
Below n (Release k f g) = (f.index < n) × (g.index < n)

-- a signed part, pushed
pub record Pushes (rows : List Row) (part : Signed) (r : Pushed) : Type 0 where
  pub is : part_of rows part ≡ stands_for rows r
  pub below : Below part.index r

-- whether a pushed part is the temporal part of location k
abbrev pub owns : Pushed → ℕ → Bool
owns (Fixed b) k = false
owns (Literal b a) k = false
owns (Same f) k = false
owns (Both f g) k = false
owns (Either f g) k = false
owns (Next l f) k = l == k
owns (Finally l f) k = l == k
owns (Globally l f) k = l == k
owns (Until l f g) k = l == k
owns (Release l f g) k = l == k

-- the temporal part of location k within a part, if there is one
abbrev pub Sought : List Row → Signed → ℕ → Option Signed → Type 0
Sought rows part k None = seek (part_of rows part) k ≡ None
Sought rows part k (Some s) = (seek (part_of rows part) k ≡ Some (part_of rows s)) × (s.index < length rows)
