-- The table of a file: what its presses say, its limits, and what a search by halving finds.
use Rattle.std.proofs.Common.{◌≡◌, ℕ, zero, suc, ◌+◌, ◌*◌, ◌/◌, ◌%◌, ◌^◌, ◌<◌, ◌≤◌, true, false, ◌&&◌, eqb, ltb, List, [], ◌∷◌, ◌++◌, Some, None, decimal, Option, sym, refl, ap, ◌∙◌, inl, inr, arith}
use native.Mathlib.Decide.{dec_lt}
use Rattle.std.proofs.lemmas.Fmt.{decimal_digit, decimal_step}
use Rattle.std.proofs.lemmas.Bool.Decides.{nat_tests}
use Rattle.std.proofs.lemmas.Bool.{cond_both, cond-true, cond-false, cases_Bool, lt-ltb, eqb-true, eq-eqb, and_parts, and_from}
use Rattle.faults.specs.declared.Fault.{Fault}
use Rattle.tables.specs.Table.{Formed, empty}
use Rattle.tables.proofs.Same.{same_tables, some_same}
use Rattle.tables.specs.Files.{word, state_place, press_place, press_from, press_event, press_to, press_key, Layout, found, filed, Room, Exist, Ordered, Place, fault_of, file_states, file_events, press_count, by_fault, file_table, file_name}

module _ (bytes : List ℕ) (n : ℕ) where
  abbrev from : ℕ → ℕ
  from k = press_from bytes (press_place n k)

  abbrev event : ℕ → ℕ
  event k = press_event bytes (press_place n k)

  abbrev to : ℕ → ℕ
  to k = press_to bytes (press_place n k)

  abbrev key : ℕ → ℕ
  key k = press_key bytes (press_place n k)

  -- a press that leads on is one of the records
  pub record Listed (s e t p : ℕ) : Type 0 where
    pub at : ℕ
    pub listed : at < p
    pub from_is : from at ≡ s
    pub event_is : event at ≡ e
    pub to_is : to at ≡ t

  pub listed_from : (s e t p : ℕ) → found bytes n s e p ≡ Some t → Listed s e t p
  listed_from s e t zero h = let z : ◌≡◌ {A = ℕ} 0 1 = cc in absurd (omega arith)
  listed_from s e t (suc k) h =
      elim (cases_Bool (eqb (from k) s && eqb (event k) e)) [
        | inl yes' ↦ let both = and_parts _ _ yes' in
            record { at = k; listed = omega arith; from_is = eqb-true _ _ both.0; event_is = eqb-true _ _ both.1; to_is = some_same (sym (cond-true _ _ _ yes') ∙ h) }
        | inr no' ↦ let l = listed_from s e t k (sym (cond-false _ _ _ no') ∙ h) in
            record { at = l.at; listed = omega (arith, l.listed); from_is = l.from_is; event_is = l.event_is; to_is = l.to_is }
      ]

  -- nothing is found where no record is
  pub found_none : (s e p : ℕ) → ((k : ℕ) → k < p → from k ≡ s → event k ≡ e → ⊥) → found bytes n s e p ≡ None
  found_none s e zero none = refl
  found_none s e (suc k) none =
      let miss : (eqb (from k) s && eqb (event k) e) ≡ false =
      elim (cases_Bool (eqb (from k) s && eqb (event k) e)) [ inl yes' ↦ let both = and_parts _ _ yes' in absurd (none k (omega arith) (eqb-true _ _ both.0) (eqb-true _ _ both.1)) | inr no' ↦ no' ]
      in
      cond-false _ _ _ miss ∙ found_none s e k (λ j h. none j (omega arith))

  module _ (p : ℕ) (m : ℕ) (few : m ≤ 64) (exist : Exist bytes n m p) (ordered : Ordered bytes n p) where
    -- a record is found where it is
    pub found_at : (k : ℕ) → k < p → (q : ℕ) → k < q → q ≤ p → found bytes n (from k) (event k) q ≡ Some (to k)
    found_at k h zero a b = absurd (omega arith)
    found_at k h (suc j) a b =
        elim (dec_lt k j) [
          | yes lt ↦
              let apart : (eqb (from j) (from k) && eqb (event j) (event k)) ≡ false =
              elim (cases_Bool (eqb (from j) (from k) && eqb (event j) (event k))) [
                | inl yes' ↦ let both = and_parts (eqb (from j) (from k)) (eqb (event j) (event k)) yes' in
                    let a' : from j ≡ from k = eqb-true _ _ both.0 in let b' : event j ≡ event k = eqb-true _ _ both.1 in let h' : j < p = omega arith in absurd (omega (arith, ordered k j lt h'))
                | inr no' ↦ no'
              ]
              in
              cond-false _ _ _ apart ∙ found_at k h j lt (omega arith)
          | no ge ↦ let is : j ≡ k = omega arith in
              let hit : (eqb (from j) (from k) && eqb (event j) (event k)) ≡ true = rw is (and_from _ _ (eq-eqb (from k) (from k) refl) (eq-eqb (event k) (event k) refl)) in
              cond-true _ _ _ hit ∙ ap (λ (i : ℕ). Some (to i)) is
        ]

    pub found_hit : (s e k : ℕ) → e < 64 → Place bytes n p (s * 64 + e) (Some k) → found bytes n s e p ≡ Some (to k)
    found_hit s e k low (h, is) =
        let below : event k < m = (exist k h).1 in
        let s_is : from k ≡ s = omega (arith, below, few) in
        let e_is : event k ≡ e = omega (arith, below, few) in
        sym (ap (λ (x : ℕ). found bytes n x (event k) p) s_is ∙ ap (λ (x : ℕ). found bytes n s x p) e_is) ∙ found_at k h p h (omega arith)

  pub found_miss : (s e p : ℕ) → Place bytes n p (s * 64 + e) None → found bytes n s e p ≡ None
  found_miss s e p none =
      found_none s e p (λ k h a b. none k h (ap (λ (x : ℕ). x * 64 + event k) a ∙ ap (λ (x : ℕ). s * 64 + x) b))

  pub filed_formed : (m p : ℕ) → n ≤ 4096 → m ≤ 64 → Exist bytes n m p → Formed (filed bytes n m p)
  filed_formed m p few most exist =
      record {
        few_states = omega arith;
        few_events = most;
        label_fits = λ s. cond_both (ltb s n) (word bytes (state_place s + 2)) 0 (λ x. x < 2 ^ 16) (λ _. omega arith) (λ _. omega arith);
        next_exists = λ s e t h. let l = listed_from s e t p h in omega (arith, (exist l.at l.listed).2, l.to_is);
        absent_start = λ s h. grind (arith, nat_tests);
        absent_label = λ s h. grind (arith, nat_tests);
        absent_state = λ s e h. found_none s e p (λ k below is _. omega (arith, (exist k below).0, is));
        absent_event = λ s e h. found_none s e p (λ k below _ is. omega (arith, (exist k below).1, is));
      }

-- what the layout gives a reader
module _ (bytes : List ℕ) (n m p : ℕ) (y : Layout bytes n m p) where
  pub layout_exist : Exist bytes n m p
  layout_exist k h = (y.from k h, y.event k h, y.to k h)

  pub layout_ordered : Ordered bytes n p
  layout_ordered j zero a b = absurd (omega arith)
  layout_ordered j (suc k) a b =
      elim (dec_lt j k) [
        | yes lt ↦ omega (arith, layout_ordered j k lt (omega arith), y.rises k b)
        | no ge ↦ let is : j ≡ k = omega arith in rw is (y.rises k b)
      ]

  pub layout_room : Room bytes n p
  layout_room = omega (arith, y.long)

  -- a good file has the table of its records,
  pub good_file : fault_of bytes ≡ None → filed bytes n m p ≡ file_table bytes
  good_file good =
      let states : n ≡ file_states bytes = sym y.states_are in
      let events : m ≡ file_events bytes = sym y.events_are in
      let presses : p ≡ press_count bytes = omega (arith, y.long, y.states_are) in
      ap (λ (x : ℕ). filed bytes x m p) states ∙ (ap (λ (x : ℕ). filed bytes (file_states bytes) x p) events ∙ (ap (λ (x : ℕ). filed bytes (file_states bytes) (file_events bytes) x) presses
      ∙ sym (ap (λ (o : Option Fault). by_fault o (filed bytes (file_states bytes) (file_events bytes) (press_count bytes))) good)))

-- and a bad one is empty
pub bad_file : {f : Fault} (bytes : List ℕ) → fault_of bytes ≡ Some f → filed bytes 0 0 0 ≡ file_table bytes
bad_file bytes bad =
    same_tables (filed bytes 0 0 0) empty refl refl (λ s. grind (arith, nat_tests)) (λ s. grind (arith, nat_tests)) (λ s e. refl)
    ∙ sym (ap (λ (o : Option Fault). by_fault o (filed bytes (file_states bytes) (file_events bytes) (press_count bytes))) bad)

-- the names of events
pub short_name : (m e : ℕ) → e < m → e < 10 → 69 ∷ (48 + e) ∷ [] ≡ file_name m e
short_name m e h low = ap (λ (ds : List ℕ). 69 ∷ ds) (sym (decimal_digit e low)) ∙ sym (cond-true _ _ _ (lt-ltb e m h))

pub long_name : (m e : ℕ) → e < m → 10 ≤ e → e < 64 → 69 ∷ (48 + e / 10) ∷ (48 + e % 10) ∷ [] ≡ file_name m e
long_name m e h high low =
    let front : decimal (e / 10) ≡ (48 + e / 10) ∷ [] = decimal_digit (e / 10) (omega arith) in
    let whole : decimal e ≡ (48 + e / 10) ∷ (48 + e % 10) ∷ [] = decimal_step e high (omega arith) ∙ ap (λ (ds : List ℕ). ds ++ ((48 + e % 10) ∷ [])) front in
    ap (λ (ds : List ℕ). 69 ∷ ds) (sym whole) ∙ sym (cond-true _ _ _ (lt-ltb e m h))
