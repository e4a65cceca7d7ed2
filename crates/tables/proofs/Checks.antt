-- Reading a file record by record comes to its earliest fault.
use Rattle.std.proofs.Common.{◌≡◌, ℕ, zero, suc, ◌+◌, ◌-◌, ◌*◌, ◌<◌, ◌≤◌, Bool, true, false, cond, ltb, leb, List, length, Some, None, Ok, Err, Option, Result, sym, refl, ap, ◌∙◌, arith}
use native.Mathlib.Decide.{dec_lt}
use Rattle.std.specs.Option.{option_or}
use Rattle.std.proofs.lemmas.Bool.{cond_both, cond-true, cond-false, leb-false, le-leb, lt-leb}
use Rattle.faults.specs.declared.Fault.{Fault}
use Rattle.faults.specs.declared.Cause.TheVariants.{FileTooShort, BadMark, TrailingBytes}
use Rattle.tables.specs.Files.{state_place, press_place, mark_wrong, whole_fault, unless, file_fault, state_fault, states_fault, is_end, press_fault, place_fault, tail_fault, told, Ends}

-- what an answer tells of the fault behind it
pub told_ok : {u : Unit {0}} (o : Option Fault) → told o ≡ Ok u → o ≡ None
told_ok None e = refl
told_ok (Some f) e = let z : ◌≡◌ {A = ℕ} 0 1 = cc in absurd (omega arith)

pub told_err : {f : Fault} (o : Option Fault) → told o ≡ Err f → o ≡ Some f
told_err None e = let z : ◌≡◌ {A = ℕ} 0 1 = cc in absurd (omega arith)
told_err (Some g) e = cc

pub other_none : (a b : Option Fault) → option_or a b ≡ None → (a ≡ None) × (b ≡ None)
other_none None b e = (refl, e)
other_none (Some f) b e = let z : ◌≡◌ {A = ℕ} 0 1 = cc in absurd (omega arith)

pub other_skip : (a b : Option Fault) → a ≡ None → option_or a b ≡ b
other_skip a b e = ap (λ (o : Option Fault). option_or o b) e

pub other_stop : {f : Fault} (a b : Option Fault) → a ≡ Some f → option_or a b ≡ Some f
other_stop a b e = ap (λ (o : Option Fault). option_or o b) e

pub unless_none : (b : Bool) (f : Fault) → unless b f ≡ None → b ≡ true
unless_none true f e = refl
unless_none false f e = let z : ◌≡◌ {A = ℕ} 0 1 = cc in absurd (omega arith)

cond_none : (b : Bool) (f : Fault) (o : Option Fault) → cond b (Some f) o ≡ None → (b ≡ false) × (o ≡ None)
cond_none true f o e = let z : ◌≡◌ {A = ℕ} 0 1 = cc in absurd (omega arith)
cond_none false f o e = (refl, e)

-- a record that stands whole
pub whole : (bytes : List ℕ) (at p q size : ℕ) → whole_fault bytes at p q size ≡ None → (mark_wrong bytes at p q ≡ false) × (at + size ≤ length bytes)
whole bytes at p q size e =
    let a = cond_none (mark_wrong bytes at p q) (file_fault BadMark at) _ e in
    let b = cond_none (ltb (length bytes) (at + size)) (file_fault FileTooShort (length bytes)) None a.1 in
    (a.0, leb_false_le _ _ b.0)
  where
    leb_false_le : (a b : ℕ) → ltb a b ≡ false → b ≤ a
    leb_false_le a b e = omega (arith, leb-false (suc a) b e)

module _ (bytes : List ℕ) where
  pub state_whole : (at : ℕ) → state_fault bytes at ≡ None → at + 5 ≤ length bytes
  state_whole at e = (whole bytes at 83 83 5 (other_none _ _ e).0).1

  -- all states up to i are good, and so is the next
  pub states_more : (i : ℕ) → states_fault bytes i ≡ None → state_fault bytes (state_place i) ≡ None → states_fault bytes (i + 1) ≡ None
  states_more i before here = let s : i + 1 ≡ suc i = omega arith in rw s (other_skip _ _ before ∙ here)

  -- a fault stays the earliest
  pub states_stop : {f : Fault} (i n : ℕ) → i < n → states_fault bytes i ≡ None → state_fault bytes (state_place i) ≡ Some f → states_fault bytes n ≡ Some f
  states_stop i zero h before here = absurd (omega arith)
  states_stop {f} i (suc n) h before here =
      elim (dec_lt i n) [
        | yes lt ↦ other_stop _ _ (states_stop i n lt before here)
        | no ge ↦ let is : i ≡ n = omega arith in
            let start : states_fault bytes n ≡ None = rw (sym is) before in
            let stop : state_fault bytes (state_place n) ≡ Some f = rw (sym is) here in
            other_skip (states_fault bytes n) (state_fault bytes (state_place n)) start ∙ stop
      ]

  module _ (n m : ℕ) where
    pub place_whole : (k : ℕ) → place_fault bytes n m k ≡ None → press_place n k + 2 ≤ length bytes
    place_whole k =
        cond_both (is_end bytes (press_place n k)) (whole_fault bytes (press_place n k) 80 90 2) (press_fault bytes n m k)
        (λ o. o ≡ None → press_place n k + 2 ≤ length bytes)
        (λ _ e. (whole bytes (press_place n k) 80 90 2 e).1)
        (λ _ e. omega (arith, (whole bytes (press_place n k) 80 90 7 (other_none _ _ e).0).1))

    pub press_whole : (k : ℕ) → is_end bytes (press_place n k) ≡ false → place_fault bytes n m k ≡ None → (press_fault bytes n m k ≡ None) × (press_place n k + 7 ≤ length bytes)
    press_whole k going e =
        let p : press_fault bytes n m k ≡ None = sym (cond-false _ _ _ going) ∙ e in
        (p, (whole bytes (press_place n k) 80 90 7 (other_none _ _ p).0).1)

    one_more : (k : ℕ) → press_place n k ≤ length bytes → length bytes - k ≡ suc (length bytes - (k + 1))
    one_more k h = omega arith

    -- the reading stops at a bad place,
    pub tail_stops : {f : Fault} (k : ℕ) → press_place n k ≤ length bytes → place_fault bytes n m k ≡ Some f → tail_fault bytes n m (length bytes - k) k ≡ Some f
    tail_stops k h bad = rw (one_more k h) (other_stop _ _ bad)

    -- goes on behind a press,
    pub tail_goes : (k : ℕ) → press_place n k ≤ length bytes → place_fault bytes n m k ≡ None → is_end bytes (press_place n k) ≡ false → tail_fault bytes n m (length bytes - k) k ≡ tail_fault bytes n m (length bytes - (k + 1)) (k + 1)
    tail_goes k h good going = rw (one_more k h) (other_skip _ _ good ∙ cond-false _ _ _ going)

    -- and ends at the end
    pub tail_ends : (k : ℕ) → press_place n k ≤ length bytes → place_fault bytes n m k ≡ None → is_end bytes (press_place n k) ≡ true → tail_fault bytes n m (length bytes - k) k ≡ unless (leb (length bytes) (press_place n k + 2)) (file_fault TrailingBytes (press_place n k + 2))
    tail_ends k h good end = rw (one_more k h) (other_skip _ _ good ∙ cond-true _ _ _ end)

    abbrev pub Reads : ℕ → Type 0
    Reads k = tail_fault bytes n m (length bytes - k) k ≡ tail_fault bytes n m (length bytes) 0

    pub ends_at_fault : {f g : Fault} (r : Result ℕ Fault) (k : ℕ) → r ≡ Err g → g ≡ f → press_place n k ≤ length bytes → place_fault bytes n m k ≡ Some f → Reads k → Ends bytes n m r
    ends_at_fault {f} r k is same h bad reads =
        let e : r ≡ Err f = is ∙ ap Err same in
        rw e (sym reads ∙ tail_stops k h bad)

    pub ends_trailing : {f : Fault} (k : ℕ) → f ≡ file_fault TrailingBytes (press_place n k + 2) → press_place n k ≤ length bytes → place_fault bytes n m k ≡ None → is_end bytes (press_place n k) ≡ true → press_place n k + 2 < length bytes → Reads k → tail_fault bytes n m (length bytes) 0 ≡ Some f
    ends_trailing k is h good end more reads =
        sym reads ∙ (tail_ends k h good end ∙ (ap (λ (b : Bool). unless b (file_fault TrailingBytes (press_place n k + 2))) (lt-leb _ _ more) ∙ ap Some (sym is)))

    pub ends_well : (k : ℕ) → press_place n k ≤ length bytes → place_fault bytes n m k ≡ None → is_end bytes (press_place n k) ≡ true → length bytes ≤ press_place n k + 2 → Reads k → (tail_fault bytes n m (length bytes) 0 ≡ None) × (length bytes ≡ 7 + 5 * n + 7 * k)
    ends_well k h good end last reads =
        (sym reads ∙ (tail_ends k h good end ∙ ap (λ (b : Bool). unless b (file_fault TrailingBytes (press_place n k + 2))) (le-leb _ _ last)), omega (arith, place_whole k good))
