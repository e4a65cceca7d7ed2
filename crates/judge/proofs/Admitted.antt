-- What is known once the judge's arguments are admitted.
use Rattle.std.proofs.Common.{◌≡◌, ℕ, ◌*◌, Bool, true, false, cond, ltb, leb, List, length, is_ok, Ok, Err, sym, refl, ap, ◌∙◌}
use Rattle.std.proofs.lemmas.Bool.{both_ways}
use Rattle.faults.specs.declared.Fault.{Fault}
use Rattle.formulas.specs.Formula.{Formula}
use Rattle.lassos.specs.Truth.{truth}
use Rattle.judge.specs.Answer.{bad_lead_in, short_work, admitted, judged}

-- the three tests passed
pub record Passed (n u lent : ℕ) : Type 0 where
  pub inside : ltb u n ≡ true
  pub few : leb n 4096 ≡ true
  pub room : leb (128 * n) lent ≡ true

tests : {X : Type 0} (v w : X) (a b c : Bool) (x y z : Fault) → Ok v ≡ cond a (cond b (cond c (Ok w) (Err x)) (Err y)) (Err z) → (a ≡ true) × (b ≡ true) × (c ≡ true)
tests v w true true true x y z e = (refl, refl, refl)
tests v w true true false x y z e = absurd (both_ways true (ap is_ok e) refl)
tests v w true false c x y z e = absurd (both_ways true (ap is_ok e) refl)
tests v w false b c x y z e = absurd (both_ways true (ap is_ok e) refl)

pub passed : {X : Type 0} (v w : X) (n u lent : ℕ) → Ok v ≡ admitted n u lent w → Passed n u lent
passed v w n u lent e =
    let t = tests v w (ltb u n) (leb n 4096) (leb (128 * n) lent) short_work (bad_lead_in n) (bad_lead_in n) e in
    record { inside = t.0; few = t.1; room = t.2 }

pub judged_is : (f : Formula) (labels : List ℕ) (u lent n : ℕ) (b : Bool) → n ≡ length labels → Passed n u lent → b ≡ truth f labels u 0 → Ok b ≡ judged f labels u lent
judged_is f labels u lent n b same p e =
    let inside : ltb u (length labels) ≡ true = rw same at p.inside in
    let few : leb (length labels) 4096 ≡ true = rw same at p.few in
    let room : leb (128 * length labels) lent ≡ true = rw same at p.room in
    ap Ok e ∙ sym (rw (inside, few, room) refl)
