-- What a denial's fields tell of its locations, and tests that go through them.
use Rattle.std.proofs.Common.{List, [], ◌∷◌, ◌++◌, ◌≡◌, ℕ, ◌-◌, ◌^◌, ◌<◌, Bool, true, false, not, ◌&&◌, ◌||◌, eqb, get_or, sym, refl, ap, ◌∙◌, ap₂, arith}
use mathlib.Core.Path.{fun_ext}
use mathlib.Core.Bool.{Bool-set, or-false}
use mathlib.Core.Logic.{∥∥₁_elim}
use lib.Bits.{bit_or, bit_and}
use Rattle.std.specs.List.{list_any, filter, range_with_len}
use Rattle.std.proofs.lemmas.List.Folds.{list_any-append}
use Rattle.denials.proofs.Ranges.{any_filtered, any_below, some_same}
use Rattle.components.specs.Bits.{has}
use Rattle.components.proofs.Bits.{has_or}
use Rattle.lassos.specs.Truth.{some, every}
use Rattle.unfolding.specs.Pushed.{locations, owes, promise, carried}
use Rattle.unfolding.specs.Smallest.{carries, smallest, without, mentions, mentioned}
use Rattle.denials.specs.declared.denial.Denial.{Denial}
use Rattle.denials.specs.Debts.{no_debt}
use Rattle.denials.specs.Meaning.{denied}
use Rattle.denials.proofs.Shifts.{has_without}

-- the promises
pub promises_told : (d : Denial) (k : ℕ) → k < locations (denied d) → has d.promises k ≡ promise (denied d) k
promises_told d k l = ∥∥₁_elim d.promised (Bool-set _ _) (λ p. p k l)

-- a set of what some locations mention
abbrev pub Gathered : Denial → List ℕ → ℕ → Type 0
Gathered d ks set = (l : ℕ) → has set l ≡ list_any (λ k. has (get_or d.debts k no_debt).mentions l) ks

pub gathered_more : {F : Type 0} (d : Denial) (ks : List ℕ) (set k new : ℕ) (f g : F) → Gathered d ks set → (new ≡ bit_or set (get_or d.debts k no_debt).mentions) × (g ≡ f) → Gathered d (ks ++ (k ∷ [])) new × (g ≡ f)
gathered_more d ks set k new f g h e = (
  λ l.
      let m : ℕ → Bool = λ j. has (get_or d.debts j no_debt).mentions l in
      ap (λ x. has x l) e.0 ∙ has_or set (get_or d.debts k no_debt).mentions l ∙ ap₂ (λ x y. x || y) (h l) (sym (or-false (m k))) ∙ sym (list_any-append m ks (k ∷ [])),
  e.1,
)

pub gathered_all : (d : Denial) (owed set : ℕ) → Gathered d (filter (has owed) (range_with_len 0 d.locations)) set → (l : ℕ) → l < 32 → has set l ≡ mentioned (denied d) (has owed) l
gathered_all d owed set h l b =
    let m : ℕ → Bool = λ j. has (get_or d.debts j no_debt).mentions l in
    h l
    ∙ any_filtered (has owed) m (range_with_len 0 d.locations)
    ∙ any_below (λ k. has owed k && m k) d.locations
    ∙ some_same d.locations (λ k. has owed k && m k) (λ k. has owed k && mentions (owes (denied d) k) l)
    (λ k c. ap (λ x. has owed k && x) (∥∥₁_elim d.mentions (Bool-set _ _) (λ e. e k l (omega (arith, d.counted)) b)))
    ∙ ap (λ n. some n (λ k. has owed k && mentions (owes (denied d) k) l)) d.counted

-- whether what location k owes is carried, where it is owed
abbrev pub paid : Denial → ℕ → ℕ → ℕ → ℕ → Bool
paid d label owed next k = not (has owed k) || carried (owes (denied d) k) label (has next)

-- whether location k can be spared
abbrev pub spared : Denial → ℕ → ℕ → ℕ → ℕ → Bool
spared d label owed next k = has next k && carries (denied d) label (has owed) (without k (has next))

pub spared_told : (d : Denial) (label owed next k one : ℕ) → next < 2 ^ 32 → ((l : ℕ) → l < 32 → has one l ≡ eqb l k) → true ≡ has next k
    → carries (denied d) label (has owed) (has (next - bit_and next one)) ≡ spared d label owed next k
spared_told d label owed next k one b single t =
    ap (λ (T : ℕ → Bool). carries (denied d) label (has owed) T) (has_without next one k b single)
    ∙ ap (λ x. x && carries (denied d) label (has owed) (without k (has next))) t

pub smallest_told : (d : Denial) (label owed next : ℕ) (r : Bool) → carries (denied d) label (has owed) (has next) ≡ true
    → r ≡ every (locations (denied d)) (λ k. not (spared d label owed next k)) → r ≡ smallest (denied d) label (has owed) (has next)
smallest_told d label owed next r c e =
    e
    ∙ ap (every (locations (denied d))) (fun_ext (λ k. turned (has next k) (carries (denied d) label (has owed) (without k (has next)))))
    ∙ sym (ap (λ x. x && every (locations (denied d)) (λ k. not (has next k) || not (carries (denied d) label (has owed) (without k (has next))))) c)
  where
    turned : (x y : Bool) → not (x && y) ≡ (not x || not y)
    turned true y = refl
    turned false y = refl
