-- The arithmetic of a lasso: the position after a step's is the next step's, and each later position is met within n steps.
use Rattle.std.proofs.Common.{◌≡◌, ℕ, zero, suc, ◌+◌, ◌-◌, ◌%◌, ◌<◌, ◌≤◌, sym, refl, ap, ◌∙◌, add-zero, mod-lt, mod-eq_of_lt, arith}
use native.Mathlib.Nat.{mod-le, mod_self, suc-mod, add-mod_right}
use native.Mathlib.Decide.{dec_lt, ℕ_discrete}
use Rattle.std.proofs.lemmas.Bool.{lt-ltb, le-ltb, eq-eqb, ne_eqb}
use Rattle.lassos.specs.Lasso.{after, later, place}

pub place_below : (n u i : ℕ) → i < n → place n u i ≡ i
place_below n u i h = let e = lt-ltb i n h in rw e

pub place_past : (n u i : ℕ) → n ≤ i → place n u i ≡ u + (i - u) % (n - u)
place_past n u i h = let e = le-ltb i n h in rw e

pub after_last : (n u i : ℕ) → i + 1 ≡ n → after n u i ≡ u
after_last n u i h = let e = eq-eqb (i + 1) n h in rw e

pub after_other : (n u i : ℕ) → (i + 1 ≡ n → ⊥) → after n u i ≡ i + 1
after_other n u i h = let e = ne_eqb (i + 1) n h in rw e

-- every step has a position of the list
pub place_lt : (n u i : ℕ) → u < n → place n u i < n
place_lt n u i h =
    elim (dec_lt i n) [
      | yes l ↦ rw (place_below n u i l) l
      | no l ↦
          let m : (i - u) % (n - u) < n - u = mod-lt (i - u) (omega arith) in
          rw (place_past n u i (omega arith)) (omega arith)
    ]

-- from the lead-in on, a step's position is in the loop, and no later than the step
pub place_near : (n u i : ℕ) → u ≤ i → (u ≤ place n u i) × (place n u i ≤ i)
place_near n u i h =
    elim (dec_lt i n) [
      | yes l ↦ rw (place_below n u i l) (omega arith)
      | no l ↦
          let m : (i - u) % (n - u) ≤ i - u = mod-le (i - u) (n - u) in
          rw (place_past n u i (omega arith)) (omega arith)
    ]

pub place_last : (n u : ℕ) → u < n → place n u n ≡ u
place_last n u h =
    let past : place n u n ≡ u + (n - u) % (n - u) = place_past n u n (omega arith) in
    past ∙ ap (λ (x : ℕ). u + x) (mod_self (n - u)) ∙ add-zero u

pub after_lt : (n u i : ℕ) → u < n → i < n → after n u i < n
after_lt n u i h l =
    elim (ℕ_discrete (i + 1) n) [
      | yes e ↦ rw (after_last n u i e) h
      | no e ↦ rw (after_other n u i e) (omega arith)
    ]

pub later_lt : (n u i k : ℕ) → u < n → i < n → later n u i k < n
later_lt n u i zero h l = l
later_lt n u i (suc k) h l = after_lt n u (later n u i k) h (later_lt n u i k h l)

-- the remainder of the next number
mod_step : (m p : ℕ) → m % p + 1 < p → (m + 1) % p ≡ m % p + 1
mod_step m p h =
    let e : m + 1 ≡ suc m = omega arith in
    let e' : m % p + 1 ≡ suc (m % p) = omega arith in
    rw (e, e') (suc-mod m p ∙ mod-eq_of_lt (omega arith))

mod_turn : (m p : ℕ) → m % p + 1 ≡ p → (m + 1) % p ≡ 0
mod_turn m p h =
    let e : m + 1 ≡ suc m = omega arith in
    let e' : suc (m % p) ≡ p = omega arith in
    rw e (suc-mod m p ∙ ap (λ (x : ℕ). x % p) e' ∙ mod_self p)

pub place_next : (n u i : ℕ) → u < n → after n u (place n u i) ≡ place n u (i + 1)
place_next n u i h =
    elim (dec_lt i n) [
      | yes l ↦
          elim (ℕ_discrete (i + 1) n) [
            | yes e ↦
                let z : (i + 1) - u ≡ n - u = omega arith in
                let past : place n u (i + 1) ≡ u + (i + 1 - u) % (n - u) = place_past n u (i + 1) (omega arith) in
                let m : (i + 1 - u) % (n - u) ≡ 0 = rw z (mod_self (n - u)) in
                rw (place_below n u i l, after_last n u i e) (omega arith)
            | no e ↦ rw (place_below n u i l, after_other n u i e, place_below n u (i + 1) (omega arith)) refl
          ]
      | no l ↦
          let here : place n u i ≡ u + (i - u) % (n - u) = place_past n u i (omega arith) in
          let then : place n u (i + 1) ≡ u + (i + 1 - u) % (n - u) = place_past n u (i + 1) (omega arith) in
          let z : i + 1 - u ≡ i - u + 1 = omega arith in
          let below : (i - u) % (n - u) < n - u = mod-lt (i - u) (omega arith) in
          elim (ℕ_discrete ((i - u) % (n - u) + 1) (n - u)) [
            | yes e ↦
                let m : (i + 1 - u) % (n - u) ≡ 0 = rw z (mod_turn (i - u) (n - u) e) in
                after_last n u (place n u i) (omega arith) ∙ omega arith
            | no e ↦
                let m : (i + 1 - u) % (n - u) ≡ (i - u) % (n - u) + 1 = rw z (mod_step (i - u) (n - u) (omega arith)) in
                after_other n u (place n u i) (omega arith) ∙ omega arith
          ]
    ]

-- k steps after a step's position
pub place_later : (n u i k : ℕ) → u < n → later n u (place n u i) k ≡ place n u (i + k)
place_later n u i zero h = rw add-zero
place_later n u i (suc k) h =
    let e : i + suc k ≡ i + k + 1 = omega arith in
    ap (after n u) (place_later n u i k h) ∙ place_next n u (i + k) h ∙ ap (place n u) (sym e)

-- the loop repeats
pub place_round : (n u i : ℕ) → u < n → u ≤ i → place n u (i + (n - u)) ≡ place n u i
place_round n u i h l =
    let past : place n u (i + (n - u)) ≡ u + (i + (n - u) - u) % (n - u) = place_past n u (i + (n - u)) (omega arith) in
    let z : i + (n - u) - u ≡ i - u + (n - u) = omega arith in
    let m : (i + (n - u) - u) % (n - u) ≡ (i - u) % (n - u) = rw z (add-mod_right (i - u) (n - u)) in
    elim (dec_lt i n) [
      | yes b ↦
          let small : (i - u) % (n - u) ≡ i - u = mod-eq_of_lt (omega arith) in
          past ∙ ap (λ (x : ℕ). u + x) (m ∙ small) ∙ omega arith ∙ sym (place_below n u i b)
      | no b ↦ past ∙ ap (λ (x : ℕ). u + x) m ∙ sym (place_past n u i (omega arith))
    ]

-- a later position, and a step within the first n that meets it, no later
pub record Met (n u i k : ℕ) : Type 0 where
  pub steps : ℕ
  pub within : steps < n
  pub sooner : steps ≤ k
  pub same : place n u (i + steps) ≡ place n u (i + k)

pub met_by : (fuel n u i k : ℕ) → u < n → k < fuel + n → Met n u i k
met_by zero n u i k h l = record { steps = k; within = omega arith; sooner = omega arith; same = refl }
met_by (suc fuel) n u i k h l =
    elim (dec_lt k n) [
      | yes b ↦ record { steps = k; within = b; sooner = omega arith; same = refl }
      | no b ↦
          let back : Met n u i (k - (n - u)) = met_by fuel n u i (k - (n - u)) h (omega arith) in
          let e : i + (k - (n - u)) + (n - u) ≡ i + k = omega arith in
          let round : place n u (i + (k - (n - u)) + (n - u)) ≡ place n u (i + (k - (n - u))) = place_round n u (i + (k - (n - u))) h (omega arith) in
          let sooner' : back.steps ≤ k - (n - u) = back.sooner in
          record { steps = back.steps; within = back.within; sooner = omega arith; same = back.same ∙ sym round ∙ ap (place n u) e }
    ]

pub met : (n u i k : ℕ) → u < n → Met n u i k
met n u i k h = met_by k n u i k h (omega arith)
