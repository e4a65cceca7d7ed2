-- What a drawing writes is an accepted file with the drawing's table.
use Rattle.std.proofs.Common.{◌≡◌, ℕ, zero, suc, ◌+◌, ◌-◌, ◌*◌, ◌/◌, ◌%◌, ◌<◌, ◌≤◌, Bool, true, false, cond, ◌&&◌, eqb, ltb, leb, List, [], ◌∷◌, ◌++◌, length, get_or, take, drop, is_some, Some, None, Ok, Option, Result, sym, refl, ap, ◌∙◌, subst, append_assoc, append-nil, suc-mul, mul_comm, zero-add, zero-mul, arith}
use native.Mathlib.Decide.{dec_lt}
use Rattle.std.specs.List.{range_with_len, flat_map}
use Rattle.std.proofs.lemmas.List.{length-append, length_push, get_or_append_left, get_or-append-add, get_or_push, take_at, drop_at, drop-drop, flat_map_more, map-id, length-take-le, take-append-drop}
use Rattle.std.proofs.lemmas.List.FromFn.{length-range_with_len, get_or-range_with_len, map-range_with_len_more}
use Rattle.std.proofs.lemmas.Bool.{cond_both, cond-true, cond-false, ltb-true, ltb-false, le-leb, lt-leb, eq-eqb, and_from, true≢false, false≢true}
use Rattle.tables.specs.Table.{Table, Formed}
use Rattle.tables.specs.Files.{byte, word, state_place, press_place, press_from, press_event, press_to, Layout, found, filed, fault_of, file_states, file_events, file_table}
use Rattle.faults.specs.declared.Fault.{Fault}
use Rattle.faults.specs.declared.Cause.TheVariants.{DrawingFull, ListTooShort}
use Rattle.tables.specs.Drawings.{refused, after}
use Rattle.tables.specs.Takes.{unless_bad, take_answer, after_take}
use Rattle.tables.specs.Writes.{Press, header_bytes, state_bytes, press_bytes, press_here, presses, front_bytes, body_bytes, file_of, with_front, pasted, pair_bytes, write_answer, after_write, ReadsBack}
use Rattle.tables.proofs.Same.{same_tables, some_same}
use Rattle.tables.proofs.Files.{layout_accepted}
use Rattle.tables.proofs.Filed.{found_at, found_none, layout_exist, layout_ordered, good_file}

-- pieces of one width, end to end
module _ {X : Type 0} (f : X → List ℕ) (w : ℕ) (wide : (x : X) → length (f x) ≡ w) where
  pub length_joined : (xs : List X) → length (flat_map f xs) ≡ length xs * w
  length_joined [] = sym (zero-mul w)
  length_joined (x ∷ xs) = length-append (f x) (flat_map f xs) ∙ omega (arith, wide x, length_joined xs, suc-mul (length xs) w)

  pub joined_at : (xs : List X) (k r : ℕ) (d : X) → k < length xs → r < w → get_or (flat_map f xs) (k * w + r) 0 ≡ get_or (f (get_or xs k d)) r 0
  joined_at [] k r d h below = absurd (omega arith)
  joined_at (x ∷ xs) zero r d h below =
      let is : zero * w + r ≡ r = omega (arith, zero-mul w) in
      let fits : r < length (f x) = omega (arith, wide x) in
      rw is (get_or_append_left (f x) (flat_map f xs) 0 r fits)
  joined_at (x ∷ xs) (suc k) r d h below =
      let is : suc k * w + r ≡ length (f x) + (k * w + r) = omega (arith, suc-mul k w, wide x) in
      rw is (get_or-append-add (f x) (flat_map f xs) (k * w + r) 0 ∙ joined_at xs k r d (omega arith) below)

-- a list that is written from the front
module _ (old : List ℕ) where
  pub grows : (front now' then : List ℕ) (record' : List ℕ) (at : ℕ) → now' ≡ with_front front old → length front ≡ at → then ≡ take at now' ++ (record' ++ drop (at + length record') now') → then ≡ with_front (front ++ record') old
  grows front now' then record' at is size put =
      let before : take at now' ≡ front = ap (take at) is ∙ take_at front (drop (length front) old) at size in
      let rest : drop at now' ≡ drop (length front) old = ap (drop at) is ∙ drop_at front (drop (length front) old) at size in
      let behind : drop (at + length record') now' ≡ drop (length (front ++ record')) old =
      sym (drop-drop (length record') at now') ∙ (ap (drop (length record')) rest ∙ (drop-drop (length record') (length front) old ∙ ap (λ (k : ℕ). drop k old) (sym (length-append front record'))))
      in
      put ∙ (ap (λ (x : List ℕ). x ++ (record' ++ drop (at + length record') now')) before ∙ (ap (λ (x : List ℕ). front ++ (record' ++ x)) behind ∙ sym (append_assoc front record' _)))

pub pasted_front : (at : ℕ) (piece out : List ℕ) → at ≤ length out → with_front (take at out ++ piece) out ≡ pasted at piece out
pasted_front at piece out h =
    let size : length (take at out ++ piece) ≡ at + length piece = length-append (take at out) piece ∙ omega (arith, length-take-le at out h) in
    ap (λ (k : ℕ). (take at out ++ piece) ++ drop k out) size ∙ append_assoc (take at out) piece _

pub pasted_none : (at : ℕ) (out : List ℕ) → pasted at [] out ≡ out
pasted_none at out = let none : at + 0 ≡ at = omega arith in rw none (take-append-drop at out)

-- nothing is written yet
pub front_none : (at : ℕ) (out : List ℕ) → at ≤ length out → out ≡ with_front (take at out ++ []) out
front_none at out h = sym (pasted_front at [] out h ∙ pasted_none at out)

abbrev no_press : Press
no_press = record { from = 0; event = 0; to = 0 }

abbrev at : List Press → ℕ → Press
at ps k = get_or ps k no_press

-- where a press stands in the order
abbrev rank : Press → ℕ
rank p = p.from * 16 + p.event

-- the presses among the first i pairs are those of the table, in rising order
pub record Presses (t : Table) (i : ℕ) (ps : List Press) : Type 0 where
  pub leads_on : (k : ℕ) → k < length ps → t.next (at ps k).from (at ps k).event ≡ Some (at ps k).to
  pub low : (k : ℕ) → k < length ps → (at ps k).event < 16
  pub before : (k : ℕ) → k < length ps → rank (at ps k) < i
  pub rises : (j k : ℕ) → j < k → k < length ps → rank (at ps j) < rank (at ps k)
  pub all : (s e to : ℕ) → t.next s e ≡ Some to → e < 16 → s * 16 + e < i → (k : ℕ) × (k < length ps) × (at ps k ≡ record { from = s; event = e; to = to })

module _ (t : Table) where
  more_none : (i : ℕ) (ps : List Press) → t.next (i / 16) (i % 16) ≡ None → Presses t i ps → Presses t (suc i) ps
  more_none i ps none p =
      record {
        leads_on = p.leads_on;
        low = p.low;
        before = λ k h. omega (arith, p.before k h);
        rises = p.rises;
        all = λ s e to is low below.
            elim (dec_lt (s * 16 + e) i) [
              | yes lt ↦ p.all s e to is low lt
              | no ge ↦
                  let q : i / 16 ≡ s = omega arith in
                  let r : i % 16 ≡ e = omega arith in
                  let z : ◌≡◌ {A = ℕ} 0 1 = cc (ap (λ (x : ℕ). t.next x (i % 16)) q, ap (λ (x : ℕ). t.next s x) r) in
                  absurd (omega arith)
            ];
      }

  more_one : (i to : ℕ) (ps : List Press) → t.next (i / 16) (i % 16) ≡ Some to → Presses t i ps → Presses t (suc i) (ps ++ (record { from = i / 16; event = i % 16; to = to } ∷ []))
  more_one i to ps is p =
      record {
        leads_on = λ k h. by_place k h (λ x. t.next x.from x.event ≡ Some x.to) (p.leads_on k) is;
        low = λ k h. by_place k h (λ x. x.event < 16) (p.low k) (omega arith);
        before = λ k h. by_place k h (λ x. rank x < suc i) (λ lt. omega (arith, p.before k lt)) (omega arith);
        rises = λ j k jk h.
            let j_old : j < length ps = omega (arith, length_push ps new) in
            let j_is : at (ps ++ (new ∷ [])) j ≡ at ps j = get_or_append_left ps (new ∷ []) no_press j j_old in
            rw j_is (by_place k h (λ x. rank (at ps j) < rank x) (λ lt. p.rises j k jk lt) (omega (arith, p.before j j_old)));
        all = λ s e to' is' low below.
            elim (dec_lt (s * 16 + e) i) [
              | yes lt ↦ let (k, h, there) = p.all s e to' is' low lt in (k, omega (arith, length_push ps new), get_or_append_left ps (new ∷ []) no_press k h ∙ there)
              | no ge ↦ (length ps, omega (arith, length_push ps new), get_or_push ps new no_press (length ps) refl ∙ same_press s e to' is' (omega arith) (omega arith))
            ];
      }
    where
      new : Press
      new = record { from = i / 16; event = i % 16; to = to }

      by_place : (k : ℕ) → k < length (ps ++ (new ∷ [])) → (P : Press → Type 0) → (k < length ps → P (at ps k)) → P new → P (at (ps ++ (new ∷ [])) k)
      by_place k h P old fresh =
          elim (dec_lt k (length ps)) [
            | yes lt ↦ subst P (sym (get_or_append_left ps (new ∷ []) no_press k lt)) (old lt)
            | no ge ↦ let last : k ≡ length ps = omega (arith, length_push ps new) in subst P (sym (ap (at (ps ++ (new ∷ []))) last ∙ get_or_push ps new no_press (length ps) refl)) fresh
          ]

      same_press : (s e to' : ℕ) → t.next s e ≡ Some to' → i / 16 ≡ s → i % 16 ≡ e → new ≡ record { from = s; event = e; to = to' }
      same_press s e to' is' q r =
          let to_is : to ≡ to' = some_same (sym is ∙ (ap (λ (x : ℕ). t.next x (i % 16)) q ∙ (ap (λ (x : ℕ). t.next s x) r ∙ is'))) in
          λ j. record { from = q j; event = r j; to = to_is j }

  pub pressed : (i : ℕ) → Presses t i (presses t i)
  pressed zero =
      record {
        leads_on = λ k h. absurd (omega arith);
        low = λ k h. absurd (omega arith);
        before = λ k h. absurd (omega arith);
        rises = λ j k jk h. absurd (omega arith);
        all = λ s e to is low below. absurd (omega arith);
      }
  pressed (suc i) = by_next (t.next (i / 16) (i % 16)) refl (pressed i)
    where
      by_next : (o : Option ℕ) → t.next (i / 16) (i % 16) ≡ o → Presses t i (presses t i) → Presses t (suc i) (presses t i ++ press_here (i / 16) (i % 16) o)
      by_next None is p = rw append-nil (more_none i (presses t i) is p)
      by_next (Some to) is p = more_one i to (presses t i) is p

module _ (t : Table) where
  pub length_front : (s : ℕ) → length (front_bytes t s) ≡ 5 + 5 * s
  length_front s =
      length-append (header_bytes t) (flat_map (state_bytes t) (range_with_len 0 s))
      ∙ omega (arith, length_joined (state_bytes t) 5 (λ x. refl) (range_with_len 0 s), length-range_with_len 0 s)

  pub length_body : (i : ℕ) → length (body_bytes t i) ≡ 5 + 5 * t.states + 7 * length (presses t i)
  length_body i =
      length-append (front_bytes t t.states) (flat_map press_bytes (presses t i))
      ∙ omega (arith, length_front t.states, length_joined press_bytes 7 (λ x. refl) (presses t i))

  pub length_file : length (file_of t) ≡ 7 + 5 * t.states + 7 * length (presses t (t.states * 16))
  length_file = length-append (body_bytes t (t.states * 16)) (68 ∷ 90 ∷ []) ∙ omega (arith, length_body (t.states * 16))

  pub presses_grow : (i j : ℕ) → i ≤ j → length (presses t i) ≤ length (presses t j)
  presses_grow i zero h = let is : i ≡ 0 = omega arith in rw is (omega arith)
  presses_grow i (suc j) h =
      elim (dec_lt j i) [
        | yes lt ↦ let is : i ≡ suc j = omega arith in rw is (omega arith)
        | no ge ↦ omega (arith, presses_grow i j (omega arith), length-append (presses t j) (press_here (j / 16) (j % 16) (t.next (j / 16) (j % 16))))
      ]

  module _ (f : Formed t) (few : t.states ≤ 64) (events : t.events ≡ 16) where
    abbrev ps : List Press
    ps = presses t (t.states * 16)

    abbrev w : List ℕ
    w = file_of t

    state_byte : (s r : ℕ) → s < t.states → r < 5 → byte w (state_place s + r) ≡ get_or (state_bytes t s) r 0
    state_byte s r h below =
        let a : state_place s + r ≡ length (header_bytes t) + (s * 5 + r) = omega arith in
        let in_front : state_place s + r < length (front_bytes t t.states) = omega (arith, length_front t.states) in
        let in_body : state_place s + r < length (body_bytes t (t.states * 16)) = omega (arith, length_body (t.states * 16)) in
        let here : s < length (range_with_len 0 t.states) = omega (arith, length-range_with_len 0 t.states) in
        get_or_append_left (body_bytes t (t.states * 16)) (68 ∷ 90 ∷ []) 0 (state_place s + r) in_body
        ∙ (get_or_append_left (front_bytes t t.states) (flat_map press_bytes ps) 0 (state_place s + r) in_front
        ∙ (ap (λ (x : ℕ). get_or (front_bytes t t.states) x 0) a
        ∙ (get_or-append-add (header_bytes t) (flat_map (state_bytes t) (range_with_len 0 t.states)) (s * 5 + r) 0
        ∙ (joined_at (state_bytes t) 5 (λ x. refl) (range_with_len 0 t.states) s r 0 here below
        ∙ ap (λ (x : ℕ). get_or (state_bytes t x) r 0) (get_or-range_with_len 0 t.states s 0 h ∙ zero-add s)))))

    press_byte : (k r : ℕ) → k < length ps → r < 7 → byte w (press_place t.states k + r) ≡ get_or (press_bytes (at ps k)) r 0
    press_byte k r h below =
        let front = front_bytes t t.states in
        let a : press_place t.states k + r ≡ length front + (k * 7 + r) = omega (arith, length_front t.states) in
        let in_body : press_place t.states k + r < length (body_bytes t (t.states * 16)) = omega (arith, length_body (t.states * 16)) in
        get_or_append_left (body_bytes t (t.states * 16)) (68 ∷ 90 ∷ []) 0 (press_place t.states k + r) in_body
        ∙ (ap (λ (x : ℕ). get_or (body_bytes t (t.states * 16)) x 0) a
        ∙ (get_or-append-add front (flat_map press_bytes ps) (k * 7 + r) 0
        ∙ joined_at press_bytes 7 (λ x. refl) ps k r no_press h below))

    end_byte : (r : ℕ) → byte w (press_place t.states (length ps) + r) ≡ get_or (68 ∷ 90 ∷ []) r 0
    end_byte r =
        let a : press_place t.states (length ps) + r ≡ length (body_bytes t (t.states * 16)) + r = omega (arith, length_body (t.states * 16)) in
        ap (λ (x : ℕ). byte w x) a ∙ get_or-append-add (body_bytes t (t.states * 16)) (68 ∷ 90 ∷ []) r 0

    -- a number in two bytes, read back
    read_word : (at x : ℕ) → x < 65536 → byte w at ≡ x % 256 → byte w (at + 1) ≡ x / 256 → word w at ≡ x
    read_word at x h low high = omega arith

    label_read : (s : ℕ) → s < t.states → word w (state_place s + 2) ≡ t.label s
    label_read s h =
        let third : state_place s + 2 + 1 ≡ state_place s + 3 = omega arith in
        let two : 2 < 5 = omega arith in
        let three : 3 < 5 = omega arith in
        read_word (state_place s + 2) (t.label s) (f.label_fits s) (state_byte s 2 h two) (ap (byte w) third ∙ state_byte s 3 h three)

    exists : (k : ℕ) → k < length ps → ((at ps k).from < t.states) × ((at ps k).to < t.states)
    exists k h =
        let p = pressed t (t.states * 16) in
        let rank_low : rank (at ps k) < t.states * 16 = p.before k h in
        (omega arith, f.next_exists (at ps k).from (at ps k).event (at ps k).to (p.leads_on k h))

    from_read : (k : ℕ) → k < length ps → press_from w (press_place t.states k) ≡ (at ps k).from
    from_read k h =
        let third : press_place t.states k + 2 + 1 ≡ press_place t.states k + 3 = omega arith in
        read_word (press_place t.states k + 2) (at ps k).from (omega (arith, (exists k h).0)) (press_byte k 2 h (omega arith)) (ap (byte w) third ∙ press_byte k 3 h (omega arith))

    event_read : (k : ℕ) → k < length ps → press_event w (press_place t.states k) ≡ (at ps k).event
    event_read k h = press_byte k 4 h (omega arith)

    to_read : (k : ℕ) → k < length ps → press_to w (press_place t.states k) ≡ (at ps k).to
    to_read k h =
        let sixth : press_place t.states k + 5 + 1 ≡ press_place t.states k + 6 = omega arith in
        read_word (press_place t.states k + 5) (at ps k).to (omega (arith, (exists k h).1)) (press_byte k 5 h (omega arith)) (ap (byte w) sixth ∙ press_byte k 6 h (omega arith))

    zero_or_one : (b : Bool) → cond b 1 0 ≤ 1
    zero_or_one true = omega arith
    zero_or_one false = omega arith

    pub file_layout : Layout w t.states 16 (length ps)
    file_layout =
        record {
          long = length_file;
          header = (refl, refl);
          states_are = omega arith;
          events_are = refl;
          few_states = omega arith;
          some_events = omega arith;
          few_events = omega arith;
          state = λ s h. let none : state_place s ≡ state_place s + 0 = omega arith in (ap (byte w) none ∙ state_byte s 0 h (omega arith), state_byte s 1 h (omega arith));
          start = λ s h. rw (state_byte s 4 h (omega arith)) (zero_or_one (t.start s));
          press = λ k h. let none : press_place t.states k ≡ press_place t.states k + 0 = omega arith in (ap (byte w) none ∙ press_byte k 0 h (omega arith), press_byte k 1 h (omega arith));
          from = λ k h. rw (from_read k h) (exists k h).0;
          event = λ k h. rw (event_read k h) ((pressed t (t.states * 16)).low k h);
          to = λ k h. rw (to_read k h) (exists k h).1;
          rises = λ k h.
              let k' : k < length ps = omega arith in
              let step : k < suc k = omega arith in
              let r = (pressed t (t.states * 16)).rises k (suc k) step h in
              let l = (pressed t (t.states * 16)).low in
              omega (arith, r, l k k', l (suc k) h, from_read k k', event_read k k', from_read (suc k) h, event_read (suc k) h);
          end = let none : press_place t.states (length ps) ≡ press_place t.states (length ps) + 0 = omega arith in (ap (byte w) none ∙ end_byte 0, end_byte 1);
        }

    pub file_good : fault_of w ≡ None
    file_good = layout_accepted w t.states 16 (length ps) file_layout

    next_read : (s e : ℕ) → found w t.states s e (length ps) ≡ t.next s e
    next_read s e = by_next (t.next s e) refl
      where
        by_next : (o : Option ℕ) → t.next s e ≡ o → found w t.states s e (length ps) ≡ t.next s e
        by_next None is =
            found_none w t.states s e (length ps) (λ k h a b.
            let p = (pressed t (t.states * 16)).leads_on k h in
            let from_is : (at ps k).from ≡ s = sym (from_read k h) ∙ a in
            let event_is : (at ps k).event ≡ e = sym (event_read k h) ∙ b in
            let z : ◌≡◌ {A = ℕ} 0 1 = cc (p, is, from_is, event_is) in
            omega arith) ∙ sym is
        by_next (Some to) is =
            let s_in : s < t.states = state_in s e to is in
            let e_in : e < 16 = event_in s e to is in
            let (k, h, there) = (pressed t (t.states * 16)).all s e to is e_in (omega arith) in
            let from_is : press_from w (press_place t.states k) ≡ s = from_read k h ∙ ap (λ (x : Press). x.from) there in
            let event_is : press_event w (press_place t.states k) ≡ e = event_read k h ∙ ap (λ (x : Press). x.event) there in
            let to_is : press_to w (press_place t.states k) ≡ to = to_read k h ∙ ap (λ (x : Press). x.to) there in
            let y = file_layout in
            let hit = found_at w t.states (length ps) 16 (omega arith) (layout_exist w t.states 16 (length ps) y) (layout_ordered w t.states 16 (length ps) y) k h (length ps) h (omega arith) in
            sym (ap (λ (x : ℕ). found w t.states x (press_event w (press_place t.states k)) (length ps)) from_is ∙ ap (λ (x : ℕ). found w t.states s x (length ps)) event_is)
            ∙ (hit ∙ (ap Some to_is ∙ sym is))
          where
            state_in : (s e to : ℕ) → t.next s e ≡ Some to → s < t.states
            state_in s e to is = elim (dec_lt s t.states) [ yes lt ↦ lt | no ge ↦ let z : ◌≡◌ {A = ℕ} 0 1 = cc (is, f.absent_state s e (omega arith)) in absurd (omega arith) ]

            event_in : (s e to : ℕ) → t.next s e ≡ Some to → e < 16
            event_in s e to is = elim (dec_lt e 16) [ yes lt ↦ lt | no ge ↦ let z : ◌≡◌ {A = ℕ} 0 1 = cc (is, f.absent_event s e (omega arith)) in absurd (omega arith) ]

    start_read : (s : ℕ) → cond (ltb s t.states) (eqb (byte w (state_place s + 4)) 1) false ≡ t.start s
    start_read s =
        cond_both (ltb s t.states) (eqb (byte w (state_place s + 4)) 1) false (λ b. b ≡ t.start s)
        (λ lt. ap (λ (x : ℕ). eqb x 1) (state_byte s 4 (ltb-true s t.states lt) (omega arith)) ∙ mark_read (t.start s))
        (λ ge. sym (f.absent_start s (ltb-false s t.states ge)))
      where
        mark_read : (b : Bool) → eqb (cond b 1 0) 1 ≡ b
        mark_read true = refl
        mark_read false = refl

    -- the file of a table gives the table back
    pub file_back : file_table w ≡ t
    file_back =
        sym (good_file w t.states 16 (length ps) file_layout file_good)
        ∙ same_tables (filed w t.states 16 (length ps)) t refl (sym events) start_read
        (λ s. cond_both (ltb s t.states) (word w (state_place s + 2)) 0 (λ x. x ≡ t.label s)
        (λ lt. label_read s (ltb-true s t.states lt)) (λ ge. sym (f.absent_label s (ltb-false s t.states ge))))
        next_read

-- one more pair of a state and an event
pub pairs_more : (t : Table) (i : ℕ) → presses t (i + 1) ≡ presses t i ++ press_here (i / 16) (i % 16) (t.next (i / 16) (i % 16))
pairs_more t i = let s : i + 1 ≡ suc i = omega arith in ap (presses t) s

pub joined_pairs : (t : Table) (i : ℕ) → flat_map press_bytes (presses t i) ++ pair_bytes t i ≡ flat_map press_bytes (presses t (i + 1))
joined_pairs t i = sym (ap (flat_map press_bytes) (pairs_more t i) ∙ joined_both (presses t i) (press_here (i / 16) (i % 16) (t.next (i / 16) (i % 16))))
  where
    joined_both : (xs ys : List Press) → flat_map press_bytes (xs ++ ys) ≡ flat_map press_bytes xs ++ flat_map press_bytes ys
    joined_both [] ys = refl
    joined_both (x ∷ xs) ys = ap (λ (bs : List ℕ). press_bytes x ++ bs) (joined_both xs ys)

pub length_presses_more : (t : Table) (i : ℕ) → length (presses t (i + 1)) ≡ length (presses t i) + length (press_here (i / 16) (i % 16) (t.next (i / 16) (i % 16)))
length_presses_more t i = ap length (pairs_more t i) ∙ length-append (presses t i) (press_here (i / 16) (i % 16) (t.next (i / 16) (i % 16)))

pub length_pair : (t : Table) (i : ℕ) → length (pair_bytes t i) ≡ 7 * length (press_here (i / 16) (i % 16) (t.next (i / 16) (i % 16)))
length_pair t i = length_joined press_bytes 7 (λ x. refl) (press_here (i / 16) (i % 16) (t.next (i / 16) (i % 16))) ∙ mul_comm _ 7

-- what a copy into a part of a list leaves
pub copied_in : (at : ℕ) (out piece part : List ℕ) → part ≡ piece → take at out ++ (part ++ drop ((at + length piece) - at) (drop at out)) ≡ pasted at piece out
copied_in at out piece part is =
    let size : (at + length piece) - at ≡ length piece = omega arith in
    ap (λ (x : List ℕ). take at out ++ (x ++ drop ((at + length piece) - at) (drop at out))) is
    ∙ ap (λ (x : List ℕ). take at out ++ (piece ++ x)) (ap (λ (k : ℕ). drop k (drop at out)) size ∙ drop-drop (length piece) at out)

-- the pair of a state and an event adds one press, or none
module _ (t : Table) (i : ℕ) where
  pub counts_one : is_some (t.next (i / 16) (i % 16)) ≡ true → length (presses t (i + 1)) ≡ length (presses t i) + 1
  counts_one is = length_presses_more t i ∙ ap (λ (k : ℕ). length (presses t i) + k) (one (t.next (i / 16) (i % 16)) is)
    where
      one : (o : Option ℕ) → is_some o ≡ true → length (press_here (i / 16) (i % 16) o) ≡ 1
      one None e = absurd (false≢true e)
      one (Some x) e = refl

  pub counts_none : is_some (t.next (i / 16) (i % 16)) ≡ false → length (presses t (i + 1)) ≡ length (presses t i)
  counts_none is = length_presses_more t i ∙ omega (arith, none (t.next (i / 16) (i % 16)) is)
    where
      none : (o : Option ℕ) → is_some o ≡ false → length (press_here (i / 16) (i % 16) o) ≡ 0
      none None e = refl
      none (Some x) e = absurd (true≢false e)

  pub pair_some : (to : ℕ) → t.next (i / 16) (i % 16) ≡ Some to → i / 16 < 256 → to < 256 → 68 ∷ 80 ∷ i / 16 ∷ 0 ∷ i % 16 ∷ to ∷ 0 ∷ [] ≡ pair_bytes t i
  pair_some to is from_low to_low =
      let a : i / 16 ≡ (i / 16) % 256 = omega arith in
      let b : 0 ≡ (i / 16) / 256 = omega arith in
      let c : to ≡ to % 256 = omega arith in
      let d : 0 ≡ to / 256 = omega arith in
      let parts : 68 ∷ 80 ∷ i / 16 ∷ 0 ∷ i % 16 ∷ to ∷ 0 ∷ [] ≡ press_bytes (record { from = i / 16; event = i % 16; to = to }) =
      λ j. 68 ∷ 80 ∷ a j ∷ b j ∷ i % 16 ∷ c j ∷ d j ∷ []
      in
      parts ∙ ap (λ (o : Option ℕ). flat_map press_bytes (press_here (i / 16) (i % 16) o)) (sym is)

  pub pair_none : t.next (i / 16) (i % 16) ≡ None → pair_bytes t i ≡ []
  pair_none is = ap (λ (o : Option ℕ). flat_map press_bytes (press_here (i / 16) (i % 16) o)) is

-- a piece behind another
pub paste_grows : (old now' then first second : List ℕ) (a b : ℕ) → a ≤ length old → now' ≡ with_front (take a old ++ first) old → b ≡ a + length first → then ≡ pasted b second now' → then ≡ with_front (take a old ++ (first ++ second)) old
paste_grows old now' then first second a b h is size put =
    let long : length (take a old ++ first) ≡ b = length-append (take a old) first ∙ omega (arith, length-take-le a old h) in
    grows old (take a old ++ first) now' then second b is long put ∙ ap (λ (x : List ℕ). with_front x old) (append_assoc (take a old) first second)

module _ (t : Table) where
  states_more : (s : ℕ) → flat_map (state_bytes t) (range_with_len 0 s) ++ state_bytes t s ≡ flat_map (state_bytes t) (range_with_len 0 (s + 1))
  states_more s = flat_map_more (state_bytes t) [] (range_with_len 0 s) s ∙ ap (flat_map (state_bytes t)) (sym counting_more)
    where
      counting_more : range_with_len 0 (s + 1) ≡ range_with_len 0 s ++ (s ∷ [])
      counting_more = sym (map-id _) ∙ (map-range_with_len_more (λ x. x) 0 s s (omega arith) ∙ ap (λ (xs : List ℕ). xs ++ (s ∷ [])) (map-id _))

  pub state_step : (old now' then : List ℕ) (s : ℕ) → 5 ≤ length old → now' ≡ with_front (take 5 old ++ flat_map (state_bytes t) (range_with_len 0 s)) old → then ≡ pasted (5 + 5 * s) (state_bytes t s) now' → then ≡ with_front (take 5 old ++ flat_map (state_bytes t) (range_with_len 0 (s + 1))) old
  state_step old now' then s h is put =
      let size : 5 + 5 * s ≡ 5 + length (flat_map (state_bytes t) (range_with_len 0 s)) = omega (arith, length_joined (state_bytes t) 5 (λ x. refl) (range_with_len 0 s), length-range_with_len 0 s) in
      paste_grows old now' then (flat_map (state_bytes t) (range_with_len 0 s)) (state_bytes t s) 5 (5 + 5 * s) h is size put
      ∙ ap (λ (x : List ℕ). with_front (take 5 old ++ x) old) (states_more s)

  pub press_step : (old now' then : List ℕ) (a b i : ℕ) → a ≤ length old → now' ≡ with_front (take a old ++ flat_map press_bytes (presses t i)) old → b ≡ a + 7 * length (presses t i) → then ≡ pasted b (pair_bytes t i) now' → then ≡ with_front (take a old ++ flat_map press_bytes (presses t (i + 1))) old
  press_step old now' then a b i h is at put =
      let size : b ≡ a + length (flat_map press_bytes (presses t i)) = omega (arith, at, length_joined press_bytes 7 (λ x. refl) (presses t i)) in
      paste_grows old now' then (flat_map press_bytes (presses t i)) (pair_bytes t i) a b h is size put
      ∙ ap (λ (x : List ℕ). with_front (take a old ++ x) old) (joined_pairs t i)

  -- the header, the states, the presses and the end, one behind the other
  pub writes_all : (old one two three four : List ℕ) (n e : ℕ) → n ≡ t.states → n ≤ 64 → e ≡ 5 + 5 * n + 7 * length (presses t (n * 16)) → one ≡ pasted 0 (68 ∷ 72 ∷ n ∷ 0 ∷ 16 ∷ []) old → two ≡ pasted 5 (flat_map (state_bytes t) (range_with_len 0 n)) one → three ≡ pasted (5 + 5 * n) (flat_map press_bytes (presses t (n * 16))) two → four ≡ pasted e (68 ∷ 90 ∷ []) three → four ≡ with_front (file_of t) old
  writes_all old one two three four n e is few at a b c d =
      let low : n ≡ t.states % 256 = omega arith in
      let high : 0 ≡ t.states / 256 = omega arith in
      let header : 68 ∷ 72 ∷ n ∷ 0 ∷ 16 ∷ [] ≡ header_bytes t = λ j. 68 ∷ 72 ∷ low j ∷ high j ∷ 16 ∷ [] in
      let first : one ≡ with_front (header_bytes t) old = grows old [] old one (68 ∷ 72 ∷ n ∷ 0 ∷ 16 ∷ []) 0 refl refl a ∙ ap (λ (x : List ℕ). with_front x old) header in
      let second : two ≡ with_front (front_bytes t n) old = grows old (header_bytes t) one two (flat_map (state_bytes t) (range_with_len 0 n)) 5 first refl b in
      let third : three ≡ with_front (front_bytes t n ++ flat_map press_bytes (presses t (n * 16))) old =
      grows old (front_bytes t n) two three (flat_map press_bytes (presses t (n * 16))) (5 + 5 * n) second (length_front t n) c
      in
      let third' : three ≡ with_front (body_bytes t (t.states * 16)) old = third ∙ ap (λ (x : ℕ). with_front (front_bytes t x ++ flat_map press_bytes (presses t (x * 16))) old) is in
      let size : length (body_bytes t (t.states * 16)) ≡ e = length_body t (t.states * 16) ∙ (ap (λ (x : ℕ). 5 + 5 * x + 7 * length (presses t (x * 16))) (sym is) ∙ sym at) in
      grows old (body_bytes t (t.states * 16)) three four (68 ∷ 90 ∷ []) e third' size d

  -- a drawing's file can be taken, and gives the drawing's table
  file_taken : Formed t → t.states ≤ 64 → t.events ≡ 16 → (before : Table) → after_take before (file_of t) ≡ t
  file_taken f few events before =
      let w = file_of t in
      let y = file_layout t f few events in
      let states : leb (file_states w) 64 ≡ true = le-leb _ _ (omega (arith, y.states_are, few)) in
      let events' : eqb (file_events w) 16 ≡ true = eq-eqb _ _ y.events_are in
      let answer : take_answer w ≡ Ok tt =
      ap (λ (o : Option Fault). unless_bad o (cond (leb (file_states w) 64 && eqb (file_events w) 16) (Ok tt) (refused DrawingFull (file_states w)))) (file_good t f few events)
      ∙ cond-true _ _ _ (and_from _ _ states events')
      in
      ap (λ (r : Result (Unit {0}) Fault). after r (file_table w) before) answer ∙ file_back t f few events

  -- the number of bytes, and whether there is room for them
  pub file_size : (size : ℕ) → size ≡ 5 + 5 * t.states + 7 * length (presses t (t.states * 16)) + 2 → size ≡ length (file_of t)
  file_size size is = omega (arith, is, length_file t)

  pub write_fits : (out : List ℕ) (size : ℕ) → size ≡ length (file_of t) → size ≤ length out → (Ok size ≡ write_answer t out) × (with_front (file_of t) out ≡ after_write t out)
  write_fits out size is h =
      let room : leb (length (file_of t)) (length out) ≡ true = le-leb _ _ (omega (arith, is)) in
      (ap Ok is ∙ sym (cond-true _ _ _ room), sym (cond-true _ _ _ room))

  pub write_short : (out : List ℕ) (size : ℕ) → size ≡ length (file_of t) → length out < size → (refused ListTooShort 1 ≡ write_answer t out) × (out ≡ after_write t out)
  write_short out size is h =
      let short : leb (length (file_of t)) (length out) ≡ false = lt-leb _ _ (omega (arith, is)) in
      (sym (cond-false _ _ _ short), sym (cond-false _ _ _ short))

  pub reads_back : Formed t → t.states ≤ 64 → t.events ≡ 16 → ReadsBack t
  reads_back f few events = record { accepted = file_good t f few events; same = file_back t f few events; taken = file_taken f few events }
