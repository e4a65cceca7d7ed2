-- Formulas of linear temporal logic, as trees.
use Rattle.std.specs.Prelude.{ℕ, ◌+◌, Bool, true, false, cond}
use Rattle.formulas.specs.declared.Prefix.{Prefix}
use Rattle.formulas.specs.declared.Prefix.TheVariants.{Not, Next, Finally, Globally}
use Rattle.formulas.specs.declared.Infix.{Infix}
use Rattle.formulas.specs.declared.Infix.TheVariants.{Implies, Or, And, Until, Release}

-- letters are numbered from 0, which is a
pub data Formula : Type 0 where
  constant : Bool → Formula
  letter : ℕ → Formula
  unary : Prefix → Formula → Formula
  binary : Infix → Formula → Formula → Formula

-- the temporal operators are X, F, G, U and R
abbrev pub temporal_prefix : Prefix → Bool
temporal_prefix Not = false
temporal_prefix Next = true
temporal_prefix Finally = true
temporal_prefix Globally = true

abbrev pub temporal_infix : Infix → Bool
temporal_infix Implies = false
temporal_infix Or = false
temporal_infix And = false
temporal_infix Until = true
temporal_infix Release = true

-- how many temporal operators a formula has
abbrev pub operators : Formula → ℕ
operators (constant b) = 0
operators (letter a) = 0
operators (unary op f) = cond (temporal_prefix op) 1 0 + operators f
operators (binary op f g) = operators f + (cond (temporal_infix op) 1 0 + operators g)
