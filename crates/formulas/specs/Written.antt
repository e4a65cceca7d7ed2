-- The text that a formula is written as: no blanks, and brackets round a part only where the grammar would
-- otherwise group it differently.
use Rattle.std.specs.Prelude.{ℕ, ◌+◌, true, false, cond, List, [], ◌∷◌, ◌++◌, nat_lt}
use Rattle.formulas.specs.Formula.{Formula, constant, letter, unary, binary}
use Rattle.formulas.specs.Sign.{prefix_sign, infix_sign}
use Rattle.formulas.specs.Grammar.{level, left, right}

abbrev pub in_brackets : List ℕ → List ℕ
in_brackets s = 40 ∷ (s ++ (41 ∷ []))

-- the formula as a part of that level: a looser one stands in brackets
abbrev pub written_at : ℕ → Formula → List ℕ
written_at l (constant false) = 48 ∷ []
written_at l (constant true) = 49 ∷ []
written_at l (letter a) = (97 + a) ∷ []
written_at l (unary op f) = prefix_sign op ∷ written_at 5 f
written_at l (binary op f g) =
    let s : List ℕ = written_at (left op) f ++ (infix_sign op ++ written_at (right op) g) in
    cond (nat_lt (level op) l) (in_brackets s) s

abbrev pub written : Formula → List ℕ
written f = written_at 1 f
