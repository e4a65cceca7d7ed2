-- Sets of locations as the bits of one number: one bit by a shift, the set of one location, and unions.
use Rattle.std.proofs.Common.{◌≡◌, ℕ, zero, suc, ◌-◌, ◌*◌, ◌/◌, ◌%◌, ◌^◌, ◌<◌, ◌≤◌, Bool, not, ◌&&◌, ◌||◌, eqb, sym, refl, ap, ◌∙◌, ap₂, mul_comm, pow-suc, div-one, arith}
use mathlib.Core.Path.{fun_ext}
use mathlib.Core.Bool.{or_assoc}
use native.Mathlib.Decide.{dec_lt}
use native.Mathlib.Nat.{div-div-eq-div-mul}
use lib.Bits.{bit_or, bit_and}
use Rattle.std.proofs.lemmas.Nat.{one_shl}
use Rattle.std.proofs.lemmas.Bool.{ne_eqb}
use Rattle.std.proofs.lemmas.Bool.Decides.{nat_tests}
use Rattle.components.specs.Bits.{has}
use Rattle.components.proofs.Bits.{has_or, has_less, has_none}
use Rattle.unfolding.specs.Smallest.{without}
use Rattle.unfolding.proofs.Sets.{has_small}

-- a bit, read by a shift
pub has_shift : (m k : ℕ) → has m k ≡ eqb (m / 2 ^ k % 2) 1
has_shift m zero = ap (λ x. eqb (x % 2) 1) (sym (div-one m))
has_shift m (suc k) =
    has_shift (m / 2) k ∙ ap (λ x. eqb (x % 2) 1) (div-div-eq-div-mul m 2 (2 ^ k) ∙ ap (λ x. m / x) (mul_comm 2 (2 ^ k) ∙ sym (pow-suc 2 k)))

-- the set of one location
pub has_power : (k l : ℕ) → has (2 ^ k) l ≡ eqb l k
has_power zero zero = refl
has_power zero (suc l) = has_none l ∙ sym (ne_eqb (suc l) 0 (λ e. omega arith))
has_power (suc k) zero =
    let e = pow-suc 2 k in
    let z : 2 ^ suc k % 2 ≡ 0 = omega arith in
    ap (λ x. eqb x 1) z ∙ sym (ne_eqb 0 (suc k) (λ e. omega arith))
has_power (suc k) (suc l) =
    let e = pow-suc 2 k in
    let z : 2 ^ suc k / 2 ≡ 2 ^ k = omega arith in
    let same : eqb l k ≡ eqb (suc l) (suc k) = grind (arith, nat_tests) in
    ap (λ x. has x l) z ∙ has_power k l ∙ same

pub has_one : (k l : ℕ) → k < 32 → has (1 * 2 ^ k % 4294967296) l ≡ eqb l k
has_one k l h = ap (λ x. has x l) (one_shl k 32 h) ∙ has_power k l

pub has_no_one : (k l : ℕ) → 32 ≤ k → l < 32 → has 0 l ≡ eqb l k
has_no_one k l h b = has_none l ∙ sym (ne_eqb l k (λ e. omega arith))

-- unions of sets of which the bit at l is known
pub union_two : (a b l : ℕ) (x y : Bool) → has a l ≡ x → has b l ≡ y → has (bit_or a b) l ≡ (x || y)
union_two a b l x y p q = has_or a b l ∙ ap₂ (λ s t. s || t) p q

pub union_three : (a b c l : ℕ) (x y z : Bool) → has a l ≡ x → has b l ≡ y → has c l ≡ z → has (bit_or (bit_or a b) c) l ≡ (x || (y || z))
union_three a b c l x y z p q r =
    has_or (bit_or a b) c l ∙ ap₂ (λ s t. s || t) (has_or a b l ∙ ap₂ (λ s t. s || t) p q) r ∙ or_assoc x y z

-- a set less one location
pub has_without : (m b k : ℕ) → m < 2 ^ 32 → ((l : ℕ) → l < 32 → has b l ≡ eqb l k) → has (m - bit_and m b) ≡ without k (has m)
has_without m b k h one = fun_ext (λ l. has_less m b l ∙ each l)
  where
    each : (l : ℕ) → (has m l && not (has b l)) ≡ (has m l && not (eqb l k))
    each l =
        elim (dec_lt l 32) [
          | yes c ↦ ap (λ x. has m l && not x) (one l c)
          | no c ↦ let e = has_small 32 m l h (omega arith) in ap (λ x. x && not (has b l)) e ∙ sym (ap (λ x. x && not (eqb l k)) e)
        ]
