-- What the states of a drawing say after one of them is written.
use Rattle.std.proofs.Common.{◌≡◌, ℕ, zero, suc, ◌+◌, ◌<◌, ◌≤◌, Bool, true, false, cond, ◌&&◌, eqb, leb, List, length, get_or, set, replicate, is_some, Some, None, Ok, Option, sym, refl, ap, ◌∙◌, arith}
use Rattle.std.proofs.lemmas.Bool.{lt-ltb, cond_both}
use native.Mathlib.Decide.{dec_lt}
use Rattle.std.proofs.lemmas.Bool.Decides.{nat_tests}
use Rattle.std.proofs.lemmas.List.{get_or-set_same, get_or-set_other, get_or_past}
use Rattle.faults.specs.declared.Cause.TheVariants.{NoSuchArgument}
use Rattle.tables.specs.Table.{Table, Formed}
use Rattle.tables.specs.Cells.{cells, Within}
use Rattle.tables.proofs.Same.{none_some}
use Rattle.tables.specs.Drawings.{refused, appended, relabelled, redirected, after_add, after_relabel, after_join, after_cut}
use Rattle.tables.proofs.Cells.{appends, relabels, redirects}
use Rattle.drawings.specs.Rows.{blank_state, state_at, start_at, label_at, next_at, IsCopy}
use Rattle.drawings.specs.declared.drawing.state.State.{State}

-- an argument that is a start mark
mark_low : (mark : Bool) (start argument : ℕ) → cond (leb start 1) (Ok (eqb start 1)) (refused NoSuchArgument argument) ≡ Ok mark → leb start 1 ≡ true
mark_low mark start argument is = grind (arith, nat_tests)

mark_is : (mark : Bool) (start argument : ℕ) → cond (leb start 1) (Ok (eqb start 1)) (refused NoSuchArgument argument) ≡ Ok mark → mark ≡ eqb start 1
mark_is mark start argument is = grind (arith, nat_tests)

module _ (states : List State) (i : ℕ) (x : State) (here : i < length states) where
  start_set : (s : ℕ) → start_at (set states i x) s ≡ cond (eqb s i) x.start (start_at states s)
  start_set s = grind (arith, nat_tests, get_or-set_same, get_or-set_other)

  label_set : (s : ℕ) → label_at (set states i x) s ≡ cond (eqb s i) x.label (label_at states s)
  label_set s = grind (arith, nat_tests, get_or-set_same, get_or-set_other)

  next_set : (s e : ℕ) → next_at (set states i x) s e ≡ cond (eqb s i) (get_or x.next e None) (next_at states s e)
  next_set s e = grind (arith, nat_tests, get_or-set_same, get_or-set_other)

  pub fits_set : x.label < 65536 → ((s : ℕ) → label_at states s < 65536) → (s : ℕ) → label_at (set states i x) s < 65536
  fits_set new fit s = rw (label_set s) (cond_both (eqb s i) x.label (label_at states s) (λ n. n < 65536) (λ _. new) (λ _. fit s))

module _ (count : ℕ) (states : List State) where
  pub adds : (label start : ℕ) (mark : Bool) (x : State) → count < length states → count < 64
      → cond (leb start 1) (Ok (eqb start 1)) (refused NoSuchArgument 2) ≡ Ok mark → x.start ≡ mark → x.label ≡ label → ((e : ℕ) → get_or x.next e None ≡ None)
      → cells (count + 1) (start_at (set states count x)) (label_at (set states count x)) (next_at (set states count x))
      ≡ after_add (cells count (start_at states) (label_at states) (next_at states)) label start
  adds label start mark x here few is starts labels none =
      let t = cells count (start_at states) (label_at states) (next_at states) in
      let done : after_add t label start ≡ appended t label (eqb start 1) = rw (mark_low mark start 2 is, lt-ltb count 64 few) refl in
      appends count (start_at states) (start_at (set states count x)) (label_at states) (label_at (set states count x)) (next_at states) (next_at (set states count x)) x.start x.label
      (start_set states count x here) (label_set states count x here)
      (λ s e. next_set states count x here s e ∙ ap (λ (o : Option ℕ). cond (eqb s count) o (next_at states s e)) (none e))
      ∙ (ap (appended t x.label) (starts ∙ mark_is mark start 2 is) ∙ (ap (λ (n : ℕ). appended t n (eqb start 1)) labels ∙ sym done))

  pub relabels_to : (state label start : ℕ) (mark : Bool) → state < length states → state < count
      → cond (leb start 1) (Ok (eqb start 1)) (refused NoSuchArgument 3) ≡ Ok mark
      → (let xs = set states state record { start = mark; label = label; next = (state_at states state).next } in cells count (start_at xs) (label_at xs) (next_at xs))
      ≡ after_relabel (cells count (start_at states) (label_at states) (next_at states)) state label start
  relabels_to state label start mark here few is =
      let t = cells count (start_at states) (label_at states) (next_at states) in
      let x : State = record { start = mark; label = label; next = (state_at states state).next } in
      let done : after_relabel t state label start ≡ relabelled t state label (eqb start 1) = rw (mark_low mark start 3 is, lt-ltb state count few) refl in
      relabels count (start_at states) (start_at (set states state x)) (label_at states) (label_at (set states state x)) (next_at states) (next_at (set states state x)) state mark label few
      (start_set states state x here) (label_set states state x here)
      (λ s e. let h = next_set states state x here s e in grind (arith, nat_tests))
      ∙ (ap (relabelled t state label) (mark_is mark start 3 is) ∙ sym done)

  -- another next state of one state and event
  module _ (from event : ℕ) (to : Option ℕ) (x : State) (here : from < length states) (start : x.start ≡ start_at states from) (label : x.label ≡ label_at states from)
      (next : (e : ℕ) → get_or x.next e None ≡ cond (eqb e event) to (next_at states from e)) where
    pub next_redirected : (s e : ℕ) → next_at (set states from x) s e ≡ cond (eqb s from && eqb e event) to (next_at states s e)
    next_redirected s e = let h = next_set states from x here s e in let k = next e in grind (arith, nat_tests)

    pub redirects_to : from < count → event < 16
        → cells count (start_at (set states from x)) (label_at (set states from x)) (next_at (set states from x))
        ≡ redirected (cells count (start_at states) (label_at states) (next_at states)) from event to
    redirects_to few sixteen =
        redirects count (start_at states) (start_at (set states from x)) (label_at states) (label_at (set states from x)) (next_at states) (next_at (set states from x)) from event to few sixteen
        (λ s. let h = start_set states from x here s in grind (arith, nat_tests)) (λ s. let h = label_set states from x here s in grind (arith, nat_tests)) next_redirected

  pub joins : (from event to : ℕ) → from < count → event < 16 → to < count → is_some (next_at states from event) ≡ false
      → redirected (cells count (start_at states) (label_at states) (next_at states)) from event (Some to) ≡ after_join (cells count (start_at states) (label_at states) (next_at states)) from event to
  joins from event to a b c none = rw (lt-ltb from count a, lt-ltb event 16 b, lt-ltb to count c, none) refl

  pub cuts : (from event : ℕ) → from < count → event < 16 → is_some (next_at states from event) ≡ true
      → redirected (cells count (start_at states) (label_at states) (next_at states)) from event None ≡ after_cut (cells count (start_at states) (label_at states) (next_at states)) from event
  cuts from event a b some = rw (lt-ltb from count a, lt-ltb event 16 b, some) refl

-- what holds of a value and of the one behind the end holds at each place of a list of that value
pub at_same : {X : Type 0} (P : X → Type 0) (n i : ℕ) (x d : X) → P x → P d → P (get_or (replicate n x) i d)
at_same P zero i x d here past = past
at_same P (suc n) zero x d here past = here
at_same P (suc n) (suc i) x d here past = at_same P n i x d here past

-- the first 64 states of a table that has no more
module _ (t : Table) (f : Formed t) (xs : List State) (few : t.states ≤ 64) (long : length xs ≡ 64) (copy : (s : ℕ) → s < 64 → IsCopy t s (state_at xs s)) where
  pub copied_fit : (s : ℕ) → label_at xs s < 65536
  copied_fit s =
      elim (dec_lt s 64) [
        | yes h ↦ rw (copy s h).label (f.label_fits s)
        | no h ↦ let past : length xs ≤ s = omega arith in omega (arith, ap (λ (x : State). x.label) (get_or_past xs s blank_state past))
      ]

  pub copied_within : Within t.states (next_at xs)
  copied_within s e to is =
      elim (dec_lt s 64) [
        | yes h ↦ elim (dec_lt e 16) [
          | yes k ↦ f.next_exists s e to (sym ((copy s h).next e k) ∙ is)
          | no k ↦ let past : length (state_at xs s).next ≤ e = omega (arith, (copy s h).long) in absurd (none_some (sym (get_or_past (state_at xs s).next e None past) ∙ is))
        ]
        | no h ↦ let past : length xs ≤ s = omega arith in absurd (none_some (sym (ap (λ (x : State). get_or x.next e None) (get_or_past xs s blank_state past)) ∙ is))
      ]
