-- Worked journeys. A label is written as a number: 1 is {a}, 2 is {b}, 3 is {a, b} and 0 is {}.
use Rattle.std.specs.Prelude.{◌≡◌, true, false, [], ◌∷◌}
use Rattle.formulas.specs.declared.Prefix.TheVariants.{Next, Finally, Globally}
use Rattle.formulas.specs.declared.Infix.TheVariants.{Implies, Until, Release}
use Rattle.formulas.specs.Formula.{Formula, letter, unary, binary}
use Rattle.lassos.specs.Truth.{truth}

-- aUb, aRb, G(a->Fb), XXa
abbrev pub a_until_b : Formula
a_until_b = binary Until (letter 0) (letter 1)

abbrev pub a_release_b : Formula
a_release_b = binary Release (letter 0) (letter 1)

abbrev pub b_after_each_a : Formula
b_after_each_a = unary Globally (binary Implies (letter 0) (unary Finally (letter 1)))

abbrev pub a_after_two : Formula
a_after_two = unary Next (unary Next (letter 0))

pub record Worked : Type 0 where
  -- on the loop {b}, and on the loop {a}
  pub until_met : truth a_until_b (2 ∷ []) 0 0 ≡ true
  pub until_missed : truth a_until_b (1 ∷ []) 0 0 ≡ false
  -- {a, b}, then the loop {}
  pub released : truth a_release_b (3 ∷ 0 ∷ []) 1 0 ≡ true
  -- {b}, then the loop {a}
  pub never_answered : truth b_after_each_a (2 ∷ 1 ∷ []) 1 0 ≡ false
  -- the loop {}, {a}
  pub even_step : truth a_after_two (0 ∷ 1 ∷ []) 0 0 ≡ false
