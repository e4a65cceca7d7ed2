-- Which checks 512 marks serve: no other list is too short then.
use Rattle.std.proofs.Common.{◌≡◌, ℕ, zero, suc, Some, None, ◌+◌, ◌*◌, ◌^◌, ◌<◌, ◌≤◌, List, sym, subst, ⊎_elim, mul-le-mul_right, mul-le-mul, arith, pow_mono}
use Rattle.std.proofs.lemmas.Bool.{lt-ltb, le-ltb, cases_lt}
use Rattle.faults.specs.declared.Fault.{Fault}
use Rattle.formulas.specs.Formula.{Formula}
use Rattle.rules.specs.Refusal.{Accepted}
use Rattle.tables.specs.Table.{Table}
use Rattle.search.specs.declared.lists.Lengths.{Lengths}
use Rattle.search.specs.Lists.{too_short}
use Rattle.unfolding.specs.Nodes.{size}
use Rattle.unfolding.specs.Pushed.{locations}
use Rattle.printing.specs.declared.answer.Answer.TheVariants as answer
use Rattle.checker.specs.Answer as check
use Rattle.checker.specs.Answer.{short_list}
use Rattle.console.specs.Answers.{Right, too_large, unserved, startless}
use Rattle.console.specs.Rooms.{Room}

-- 2 ^ d nodes for each state, and at most 512 in all: at most nine locations, where there is a state
few_locations : (d : ℕ) → 2 ^ d ≤ 512 → d ≤ 9
few_locations d h = ⊎_elim (λ l. omega arith) (λ l. let p : 2 ^ 10 ≤ 2 ^ d = pow_mono l in absurd (omega arith)) (cases_lt d 10)

few_presses : (n d : ℕ) → n * 2 ^ d ≤ 512 → (d + 1) * (n * 2 ^ d) ≤ 5120
few_presses zero d h = omega arith
few_presses (suc n) d h =
    let one : 1 * 2 ^ d ≤ suc n * 2 ^ d = mul-le-mul_right (2 ^ d) (omega arith) in
    let nine = few_locations d (omega arith) in
    let all : (d + 1) * (suc n * 2 ^ d) ≤ 10 * 512 = let ten : d + 1 ≤ 10 = omega arith in mul-le-mul ten h in
    omega arith

module _ (t : Table) (f : Formula) (lists : Lengths) (p o : ℕ) (room : Room lists p o) where
  pub served_presses : size t f ≤ 512 → (locations f + 1) * size t f ≤ 5120
  served_presses h = few_presses t.states (locations f) h

  pub small_served : size t f ≤ 512 → short_list t f lists p ≡ None
  small_served h =
      let few = served_presses h in
      let a = le-ltb lists.marks (size t f) (omega arith) in
      let b = le-ltb lists.slots (size t f) (omega arith) in
      let c = le-ltb lists.trail (size t f) (omega arith) in
      let d = le-ltb lists.roots (size t f) (omega arith) in
      let e = le-ltb p ((locations f + 1) * size t f) (omega arith) in
      simp (a, b, c, d, e)

  pub large_unserved : 512 < size t f → short_list t f lists p ≡ Some 1
  large_unserved h =
      let short = lt-ltb lists.marks (size t f) (omega arith) in
      simp short

  pub served_if : short_list t f lists p ≡ None → size t f ≤ 512
  served_if h = ⊎_elim (λ l. let z = large_unserved l in let clash : ◌≡◌ {A = ℕ} 0 1 = cc in absurd (omega arith)) (λ l. l) (cases_lt 512 (size t f))

  short_if : (place : ℕ) → short_list t f lists p ≡ Some place → (512 < size t f) × (place ≡ 1)
  short_if place h =
      ⊎_elim (λ l. let z = large_unserved l in (l, cc)) (λ l. let z = small_served l in let clash : ◌≡◌ {A = ℕ} 0 1 = cc in absurd (omega arith)) (cases_lt 512 (size t f))

  -- the refusals of the check, as answers to a line
  pub refused_right : (fault : Fault) (line : List ℕ) → Accepted line f → check.Refused t f (short_list t f lists p) fault → Right t line (answer.Refused fault)
  refused_right fault line a (check.too_large h) = too_large f a h
  refused_right fault line a (check.too_little place few h) =
      let l = short_if place h in
      let P : ℕ → Type 0 = λ place. Right t line (answer.Refused (too_short place)) in
      subst P (sym l.1) (unserved f a few l.0)
  refused_right fault line a (check.startless few e none) = startless f a (served_if e) none
