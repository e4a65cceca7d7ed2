-- The signs of a rule text, as bytes of ASCII.
use Rattle.std.specs.Prelude.{ℕ, ◌-◌, Bool, true, false, cond, List, [], ◌∷◌, ◌==◌, nat_le}
use Rattle.formulas.specs.declared.Prefix.{Prefix}
use Rattle.formulas.specs.declared.Prefix.TheVariants.{Not, Next, Finally, Globally}
use Rattle.formulas.specs.declared.Infix.{Infix}
use Rattle.formulas.specs.declared.Infix.TheVariants.{Implies, Or, And, Until, Release}
use Rattle.formulas.specs.declared.Sign.{Sign}
use Rattle.formulas.specs.declared.Sign.TheVariants.{Blank, Open, Close, Dash, Head, Constant, Letter, Before, Between, Unknown}

-- !  X  F  G
abbrev pub prefix_sign : Prefix → ℕ
prefix_sign Not = 33
prefix_sign Next = 88
prefix_sign Finally = 70
prefix_sign Globally = 71

-- ->  |  &  U  R
abbrev pub infix_sign : Infix → List ℕ
infix_sign Implies = 45 ∷ 62 ∷ []
infix_sign Or = 124 ∷ []
infix_sign And = 38 ∷ []
infix_sign Until = 85 ∷ []
infix_sign Release = 82 ∷ []

-- what a byte is: a letter a to p, a blank, a bracket, one of the two bytes of ->, 0 or 1, an operator, or nothing known
abbrev pub is_letter : ℕ → Bool
is_letter b = cond (nat_le 97 b) (nat_le b 112) false

abbrev pub sign : ℕ → Sign
sign b =
    cond (is_letter b) (Letter (b - 97))
    (cond (b == 32) Blank
    (cond (b == 40) Open
    (cond (b == 41) Close
    (cond (b == 45) Dash
    (cond (b == 62) Head
    (cond (b == 48) (Constant false)
    (cond (b == 49) (Constant true)
    (cond (b == 33) (Before Not)
    (cond (b == 88) (Before Next)
    (cond (b == 70) (Before Finally)
    (cond (b == 71) (Before Globally)
    (cond (b == 124) (Between Or)
    (cond (b == 38) (Between And)
    (cond (b == 85) (Between Until)
    (cond (b == 82) (Between Release) Unknown)))))))))))))))
