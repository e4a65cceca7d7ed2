-- Linear temporal logic on endless words, as in the books. A word has a label for each natural number; it need not repeat.
use Rattle.std.specs.Prelude.{◌≡◌, ℕ, suc, ◌<◌, ◌≤◌, true, ◌⊎◌, List, length, Decides}
use Rattle.std.specs.Option.{unwrap_or}
use Rattle.formulas.specs.declared.Prefix.{Prefix}
use Rattle.formulas.specs.declared.Prefix.TheVariants.{Not, Next, Finally, Globally}
use Rattle.formulas.specs.declared.Infix.{Infix}
use Rattle.formulas.specs.declared.Infix.TheVariants.{Implies, Or, And, Until, Release}
use Rattle.formulas.specs.Formula.{Formula, constant, letter, unary, binary}
use Rattle.lassos.specs.Lasso.{place, entry}
use Rattle.lassos.specs.Truth.{has, truth}

-- An operator, from what holds of its operands at each step. F and G speak of some and of every step from this one on;
-- f U g of a step with g before which f holds; f R g of g for ever, or up to and with a step at which f holds.
abbrev pub Prefixed : Prefix → (ℕ → Type 0) → ℕ → Type 0
Prefixed Not F i = F i → ⊥
Prefixed Next F i = F (suc i)
Prefixed Finally F i = (k : ℕ) × (i ≤ k) × F k
Prefixed Globally F i = (k : ℕ) → i ≤ k → F k

abbrev pub Infixed : Infix → (ℕ → Type 0) → (ℕ → Type 0) → ℕ → Type 0
Infixed Implies F G i = F i → G i
Infixed Or F G i = F i ⊎ G i
Infixed And F G i = F i × G i
Infixed Until F G i = (k : ℕ) × (i ≤ k) × G k × ((j : ℕ) → i ≤ j → j < k → F j)
Infixed Release F G i = ((k : ℕ) → i ≤ k → G k) ⊎ ((k : ℕ) × (i ≤ k) × F k × ((j : ℕ) → i ≤ j → j ≤ k → G j))

-- a formula holds of the word w at step i
abbrev pub Holds : (ℕ → ℕ) → Formula → ℕ → Type 0
Holds w (constant b) i = b ≡ true
Holds w (letter a) i = has (w i) a ≡ true
Holds w (unary op f) i = Prefixed op (Holds w f) i
Holds w (binary op f g) i = Infixed op (Holds w f) (Holds w g) i

-- the endless word that a lasso of labels spells
abbrev pub spelled : List ℕ → ℕ → ℕ → ℕ
spelled labels u k = unwrap_or (entry labels u k) 0

-- The law of lassos: by the rules of positions a formula is true at a step's position exactly when it holds there of
-- the endless word; of every formula, lasso and step.
abbrev pub PositionLaw : Type 0
PositionLaw = (f : Formula) (labels : List ℕ) (u : ℕ) → u < length labels → (k : ℕ) → Decides (truth f labels u (place (length labels) u k)) (Holds (spelled labels u) f k)
