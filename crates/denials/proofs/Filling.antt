-- The debts of the locations, filled in one location after another.
use Rattle.std.proofs.Common.{◌≡◌, ℕ, ◌+◌, ◌<◌, ◌≤◌, false, ◌&&◌, ◌||◌, eqb, ◌≢◌, List, length, get_or, set, refl, ap, ◌∙◌, subst, arith, length-set, get_or-set_other, get_or-set_same}
use mathlib.Core.Bool.{or-false, and-true}
use native.Mathlib.Decide.{dec_lt}
use lib.Bits.{bit_or}
use Rattle.std.proofs.lemmas.Bool.{eq-eqb, ne_eqb, and_right}
use Rattle.formulas.specs.declared.Part.{Part as Row}
use Rattle.formulas.specs.Table.{whole_formula}
use Rattle.components.specs.Bits.{has}
use Rattle.components.proofs.Bits.{has_or, has_none}
use Rattle.unfolding.specs.Pushed.{Part, locations, owes, promise}
use Rattle.unfolding.specs.Smallest.{mentions}
use Rattle.denials.specs.declared.signed.Due.{Due}
use Rattle.denials.specs.declared.signed.Debt.{Debt}
use Rattle.denials.specs.Signs.{part_of}
use Rattle.denials.specs.Debts.{Owing, no_debt}

-- a debt that is what location k owes
pub record Settled (rows : List Row) (k : ℕ) (d : Debt) : Type 0 where
  pub placed : d.part.index < length rows
  pub due : part_of rows d.part ≡ owes (whole_formula rows) k
  pub looks : (l : ℕ) → l < 32 → has d.mentions l ≡ mentions (owes (whole_formula rows) k) l

-- the locations below n are filled in
pub record Filled (rows : List Row) (n : ℕ) (each : List Debt) (promises : ℕ) : Type 0 where
  pub long : length each ≡ 10
  pub settled : (k : ℕ) → k < n → Settled rows k (get_or each k no_debt)
  pub promised : (k : ℕ) → k < n → has promises k ≡ promise (whole_formula rows) k
  pub others : (k : ℕ) → n ≤ k → k < 32 → has promises k ≡ false

pub filled_none : (rows : List Row) (each : List Debt) → length each ≡ 10 → Filled rows 0 each 0
filled_none rows each e = record { long = e; settled = λ k l. absurd (omega arith); promised = λ k l. absurd (omega arith); others = λ k l b. has_none k }

module _ (rows : List Row) (n : ℕ) (each : List Debt) (promises : ℕ) (f : Filled rows n each promises) (few : n < 10) (there : n < locations (whole_formula rows)) where
  -- one more location: its debt, and its bit among the promises
  module _ (owed : Due) (is : Owing rows n owed) (m : ℕ) (looks : (l : ℕ) → l < 32 → has m l ≡ mentions (part_of rows owed.part) l)
      (one bit : ℕ) (single : (l : ℕ) → l < 32 → has one l ≡ eqb l n) (chosen : (l : ℕ) → has bit l ≡ (owed.promise && has one l)) where
    abbrev debt : Debt
    debt = record { part = owed.part; mentions = m }

    here : Settled rows n debt
    here =
        record {
          placed = is.within;
          due = is.is there;
          looks = λ l b. looks l b ∙ ap (λ (p : Part). mentions p l) (is.is there);
        }

    settled_more : (k : ℕ) → k < n + 1 → Settled rows k (get_or (set each n debt) k no_debt)
    settled_more k l =
        elim (dec_lt k n) [
          | yes b ↦ let ne : k ≢ n = omega arith in rw get_or-set_other (f.settled k b)
          | no b ↦ let e : n ≡ k = omega arith in let room : n < length each = omega (arith, f.long) in subst (λ (x : ℕ). Settled rows x (get_or (set each n debt) x no_debt)) e (rw get_or-set_same here)
        ]

    other_bit : (k : ℕ) → k < 32 → (k ≡ n → ⊥) → has (bit_or promises bit) k ≡ has promises k
    other_bit k b ne =
        has_or promises bit k
        ∙ ap (λ x. has promises k || x) (chosen k ∙ and_right owed.promise _ (single k b ∙ ne_eqb k n ne))
        ∙ or-false (has promises k)

    own_bit : has (bit_or promises bit) n ≡ promise (whole_formula rows) n
    own_bit =
        has_or promises bit n
        ∙ ap (λ x. x || has bit n) (f.others n (omega arith) (omega arith))
        ∙ chosen n
        ∙ ap (λ x. owed.promise && x) (single n (omega arith) ∙ eq-eqb n n refl)
        ∙ and-true owed.promise
        ∙ is.promises there

    pub filled_more : Filled rows (n + 1) (set each n debt) (bit_or promises bit)
    filled_more =
        record {
          long = length-set each n debt ∙ f.long;
          settled = settled_more;
          promised = λ k l.
              elim (dec_lt k n) [
                | yes b ↦ other_bit k (omega arith) (λ e. omega arith) ∙ f.promised k b
                | no b ↦ let e : n ≡ k = omega arith in subst (λ (x : ℕ). has (bit_or promises bit) x ≡ promise (whole_formula rows) x) e own_bit
              ];
          others = λ k l b. other_bit k b (λ e. omega arith) ∙ f.others k (omega arith) b;
        }
