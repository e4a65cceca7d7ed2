-- Rule texts. A text is a list of bytes; `Text level text f` says that the grammar reads the text, at that level, as
-- the formula f. The levels, from the loosest to the tightest: 1 rule, 2 disjunction, 3 conjunction, 4 until, 5 unary.
--   rule         =  disjunction  |  disjunction "->" rule
--   disjunction  =  conjunction  |  disjunction "|" conjunction
--   conjunction  =  until        |  conjunction "&" until
--   until        =  unary        |  unary ("U" or "R") until
--   unary        =  ("!" or "X" or "F" or "G") unary  |  "(" rule ")"  |  "1"  |  "0"  |  a letter a to p
-- Blanks may stand around signs.
use Rattle.std.specs.Prelude.{ℕ, suc, ◌+◌, ◌<◌, ◌≤◌, Bool, true, false, cond, List, [], ◌∷◌, ◌++◌, ◌==◌}
use Rattle.formulas.specs.declared.Prefix.{Prefix}
use Rattle.formulas.specs.declared.Infix.{Infix}
use Rattle.formulas.specs.declared.Infix.TheVariants.{Implies, Or, And, Until, Release}
use Rattle.formulas.specs.Formula.{Formula, constant, letter, unary, binary}
use Rattle.formulas.specs.Sign.{prefix_sign, infix_sign}

-- the level of a text joined by an infix sign, and the levels of what stands left and right of the sign:
-- | and & group from the left; ->, U and R from the right
abbrev pub level : Infix → ℕ
level Implies = 1
level Or = 2
level And = 3
level Until = 4
level Release = 4

abbrev pub left : Infix → ℕ
left Implies = 2
left Or = 2
left And = 3
left Until = 5
left Release = 5

abbrev pub right : Infix → ℕ
right Implies = 1
right Or = 3
right And = 4
right Until = 4
right Release = 4

pub data Text : ℕ → List ℕ → Formula → Type 0 where
  zero_text : Text 5 (48 ∷ []) (constant false)
  one_text : Text 5 (49 ∷ []) (constant true)
  letter_text : (a : ℕ) → a < 16 → Text 5 ((97 + a) ∷ []) (letter a)
  prefixed : {s : List ℕ} {f : Formula} (op : Prefix) → Text 5 s f → Text 5 (prefix_sign op ∷ s) (unary op f)
  bracketed : {s : List ℕ} {f : Formula} → Text 1 s f → Text 5 (40 ∷ (s ++ (41 ∷ []))) f
  joined : {s t : List ℕ} {f g : Formula} (op : Infix) → Text (left op) s f → Text (right op) t g → Text (level op) (s ++ (infix_sign op ++ t)) (binary op f g)
  tighter : {l : ℕ} {s : List ℕ} {f : Formula} → 1 ≤ l → Text (suc l) s f → Text l s f
  blank_before : {l : ℕ} {s : List ℕ} {f : Formula} → Text l s f → Text l (32 ∷ s) f
  blank_after : {l : ℕ} {s : List ℕ} {f : Formula} → Text l s f → Text l (s ++ (32 ∷ [])) f

-- a rule text, and the formula that it gives
abbrev pub Reads : List ℕ → Formula → Type 0
Reads text f = Text 1 text f

-- bytes with which some rule text begins
abbrev pub Begins : List ℕ → Type 0
Begins front = (rest : List ℕ) × (f : Formula) × Reads (front ++ rest) f

-- X, F, G, U and R are the signs of temporal operators, and stand for nothing else
abbrev pub temporal_sign : ℕ → Bool
temporal_sign b = cond (b == 88) true (cond (b == 70) true (cond (b == 71) true (cond (b == 85) true (b == 82))))

-- how many temporal operators a text has
abbrev pub temporals : List ℕ → ℕ
temporals [] = 0
temporals (b ∷ text) = cond (temporal_sign b) 1 0 + temporals text
