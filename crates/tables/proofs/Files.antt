-- Files: a file without a fault is one that the layout allows, and its table keeps the limits.
use Rattle.std.proofs.Common.{◌≡◌, ℕ, zero, suc, ◌+◌, ◌-◌, ◌*◌, ◌<◌, ◌≤◌, Bool, true, false, ◌&&◌, ◌||◌, eqb, ltb, leb, ◌⊎◌, List, length, None, sym, refl, ◌∙◌, subst, inl, inr, arith}
use native.Mathlib.Decide.{dec_lt}
use Rattle.std.proofs.lemmas.Bool.Decides.{nat_tests}
use Rattle.std.proofs.lemmas.Bool.{cond-true, cond-false, cases_Bool, leb-true, le-leb, le-ltb, ltb-true, lt-ltb, eqb-true, eqb-false, and_parts, and_from, or_cases, or_right, eq-eqb, ne_eqb}
use Rattle.tables.specs.Files.{byte, file_states, file_events, state_place, press_place, press_from, press_event, press_to, press_key, Marked, Layout, mark_wrong, whole_fault, header_fault, state_fault, states_fault, is_end, press_allowed, place_fault, tail_fault, fault_of}
use Rattle.tables.proofs.Checks.{other_none, other_skip, unless_none, whole, state_whole, press_whole, place_whole}

-- a mark that is there, and right
right_mark : (bytes : List ℕ) (at p q : ℕ) → mark_wrong bytes at p q ≡ false → at + 2 ≤ length bytes → (byte bytes at ≡ 68) × ((byte bytes (at + 1) ≡ p) ⊎ (byte bytes (at + 1) ≡ q))
right_mark bytes at p q e h = (grind (arith, nat_tests), second (eqb (byte bytes (at + 1)) p) refl)
  where
    second : (b : Bool) → eqb (byte bytes (at + 1)) p ≡ b → (byte bytes (at + 1) ≡ p) ⊎ (byte bytes (at + 1) ≡ q)
    second true is = inl (eqb-true _ _ is)
    second false is = inr (grind (arith, nat_tests))

same_mark : (bytes : List ℕ) (at p : ℕ) → mark_wrong bytes at p p ≡ false → at + 2 ≤ length bytes → Marked bytes at p
same_mark bytes at p e h = let m = right_mark bytes at p p e h in (m.0, elim m.1 [ inl x ↦ x | inr x ↦ x ])

marks_well : (bytes : List ℕ) (at p q : ℕ) → byte bytes at ≡ 68 → (byte bytes (at + 1) ≡ p) ⊎ (byte bytes (at + 1) ≡ q) → mark_wrong bytes at p q ≡ false
marks_well bytes at p q d s = grind (arith, nat_tests)

stands : (bytes : List ℕ) (at p q size : ℕ) → byte bytes at ≡ 68 → (byte bytes (at + 1) ≡ p) ⊎ (byte bytes (at + 1) ≡ q) → at + size ≤ length bytes → whole_fault bytes at p q size ≡ None
stands bytes at p q size d s h = cond-false _ _ _ (marks_well bytes at p q d s) ∙ cond-false _ _ _ (le-ltb (length bytes) (at + size) h)

module _ (bytes : List ℕ) where
  -- the states before i are all good
  state_good : (n : ℕ) → states_fault bytes n ≡ None → (i : ℕ) → i < n → state_fault bytes (state_place i) ≡ None
  state_good zero e i h = absurd (omega arith)
  state_good (suc n) e i h =
      elim (dec_lt i n) [
        | yes lt ↦ state_good n (other_none _ _ e).0 i lt
        | no ge ↦ let is : i ≡ n = omega arith in rw is (other_none (states_fault bytes n) _ e).1
      ]

  states_good : (n : ℕ) → ((i : ℕ) → i < n → state_fault bytes (state_place i) ≡ None) → states_fault bytes n ≡ None
  states_good zero each = refl
  states_good (suc n) each = other_skip _ _ (states_good n (λ i h. each i (omega arith))) ∙ each n (omega arith)

  module _ (n m : ℕ) where
    -- where the presses end, and that all before are good
    pub record Closes (k p : ℕ) : Type 0 where
      pub from_here : k ≤ p
      pub going : (j : ℕ) → k ≤ j → j < p → is_end bytes (press_place n j) ≡ false
      pub good : (j : ℕ) → k ≤ j → j < p → place_fault bytes n m j ≡ None
      pub ends : is_end bytes (press_place n p) ≡ true
      pub end_good : place_fault bytes n m p ≡ None
      pub long : length bytes ≡ 7 + 5 * n + 7 * p

    closes_on : (k : ℕ) → is_end bytes (press_place n k) ≡ false → place_fault bytes n m k ≡ None → (p : ℕ) × Closes (k + 1) p → (p : ℕ) × Closes k p
    closes_on k on fine (p, c) = (
      p,
      record {
        from_here = omega (arith, c.from_here);
        going = λ j a b. elim (dec_lt k j) [ yes lt ↦ c.going j (omega arith) b | no ge ↦ let is : j ≡ k = omega arith in rw is on ];
        good = λ j a b. elim (dec_lt k j) [ yes lt ↦ c.good j (omega arith) b | no ge ↦ let is : j ≡ k = omega arith in rw is fine ];
        ends = c.ends;
        end_good = c.end_good;
        long = c.long;
      },
    )

    closes_here : (k : ℕ) → is_end bytes (press_place n k) ≡ true → place_fault bytes n m k ≡ None → leb (length bytes) (press_place n k + 2) ≡ true → Closes k k
    closes_here k end fine last =
        record {
          from_here = omega arith;
          going = λ j a b. absurd (omega arith);
          good = λ j a b. absurd (omega arith);
          ends = end;
          end_good = fine;
          long = omega (arith, leb-true _ _ last, place_whole bytes n m k fine);
        }

    closes : (left k : ℕ) → length bytes ≤ left + k → press_place n k ≤ length bytes → tail_fault bytes n m left k ≡ None → (p : ℕ) × Closes k p
    closes zero k enough h e = absurd (omega arith)
    closes (suc left) k enough h e =
        let parts = other_none (place_fault bytes n m k) _ e in
        elim (cases_Bool (is_end bytes (press_place n k))) [
          | inl end ↦ (k, closes_here k end parts.0 (unless_none _ _ (sym (cond-true _ _ _ end) ∙ parts.1)))
          | inr on ↦ closes_on k on parts.0 (closes left (k + 1) (omega arith) (omega (arith, (press_whole bytes n m k on parts.0).1)) (sym (cond-false _ _ _ on) ∙ parts.1))
        ]

  pub states_room : (n : ℕ) → 5 ≤ length bytes → states_fault bytes n ≡ None → press_place n 0 ≤ length bytes
  states_room zero h e = omega arith
  states_room (suc i) h e = omega (arith, state_whole bytes (state_place i) (other_none (states_fault bytes i) _ e).1)

  state_marked : (at : ℕ) → state_fault bytes at ≡ None → Marked bytes at 83
  state_marked at e =
      let w = whole bytes at 83 83 5 (other_none _ _ e).0 in same_mark bytes at 83 w.0 (omega (arith, w.1))

  state_start : (at : ℕ) → state_fault bytes at ≡ None → byte bytes (at + 4) ≤ 1
  state_start at e = leb-true _ _ (unless_none _ _ (other_none _ _ e).1)

  press_marked : (n m k : ℕ) → is_end bytes (press_place n k) ≡ false → place_fault bytes n m k ≡ None → Marked bytes (press_place n k) 80
  press_marked n m k on e =
      let f = press_whole bytes n m k on e in
      let w = whole bytes (press_place n k) 80 90 7 (other_none _ _ f.0).0 in
      let r = right_mark bytes (press_place n k) 80 90 w.0 (omega (arith, w.1)) in
      (r.0, elim r.1 [ inl x ↦ x | inr x ↦ absurd (eqb-false _ _ on x) ])

  end_marked : (n m k : ℕ) → is_end bytes (press_place n k) ≡ true → place_fault bytes n m k ≡ None → Marked bytes (press_place n k) 90
  end_marked n m k end e =
      let w = whole bytes (press_place n k) 80 90 2 (sym (cond-true _ _ _ end) ∙ e) in
      let r = right_mark bytes (press_place n k) 80 90 w.0 w.1 in
      (r.0, eqb-true _ _ end)

  press_fine : (n m k : ℕ) → is_end bytes (press_place n k) ≡ false → place_fault bytes n m k ≡ None → press_allowed bytes n m k ≡ true
  press_fine n m k on e = unless_none _ _ (other_none _ _ (press_whole bytes n m k on e).0).1

  -- what an allowed press holds
  allows : (n m k : ℕ) → press_allowed bytes n m k ≡ true → (press_from bytes (press_place n k) < n) × (press_event bytes (press_place n k) < m) × (press_to bytes (press_place n k) < n) × ((eqb k 0 || ltb (press_key bytes (press_place n (k - 1))) (press_key bytes (press_place n k))) ≡ true)
  allows n m k e =
      let x = and_parts _ _ e in
      let y = and_parts _ _ x.0 in
      let z = and_parts _ _ y.0 in
      (ltb-true _ _ z.0, ltb-true _ _ z.1, ltb-true _ _ y.1, x.1)

  rises_on : (n j : ℕ) → (eqb (suc j) 0 || ltb (press_key bytes (press_place n (suc j - 1))) (press_key bytes (press_place n (suc j)))) ≡ true → press_key bytes (press_place n j) < press_key bytes (press_place n (suc j))
  rises_on n j e =
      let back : suc j - 1 ≡ j = omega arith in
      let on : (eqb (suc j) 0 || ltb (press_key bytes (press_place n j)) (press_key bytes (press_place n (suc j)))) ≡ true = rw back at e in
      elim (or_cases (eqb (suc j) 0) _ on) [ inl z ↦ absurd (omega (arith, eqb-true _ _ z)) | inr lt ↦ ltb-true _ _ lt ]

  -- a file without a fault is one that the layout allows,
  pub accepted_layout : fault_of bytes ≡ None → (p : ℕ) × Layout bytes (file_states bytes) (file_events bytes) p
  accepted_layout e =
      let n = file_states bytes in
      let m = file_events bytes in
      let a = other_none (header_fault bytes) _ e in
      let b = other_none (states_fault bytes n) _ a.1 in
      let head = other_none (whole_fault bytes 0 72 72 5) _ a.0 in
      let begun = whole bytes 0 72 72 5 head.0 in
      let limits : (n ≤ 4096) × (0 < m) × (m ≤ 64) = limited n m (unless_none _ _ head.1) in
      let room : press_place n 0 ≤ length bytes = states_room n begun.1 b.0 in
      let (p, c) = closes n m (length bytes) 0 (omega arith) room b.1 in (
        p,
        record {
          long = c.long;
          header = same_mark bytes 0 72 begun.0 (omega arith);
          states_are = refl;
          events_are = refl;
          few_states = limits.0;
          some_events = limits.1;
          few_events = limits.2;
          state = λ i h. state_marked (state_place i) (state_good n b.0 i h);
          start = λ i h. state_start (state_place i) (state_good n b.0 i h);
          press = λ k h. press_marked n m k (c.going k (omega arith) h) (c.good k (omega arith) h);
          from = λ k h. (allows n m k (press_fine n m k (c.going k (omega arith) h) (c.good k (omega arith) h))).0;
          event = λ k h. (allows n m k (press_fine n m k (c.going k (omega arith) h) (c.good k (omega arith) h))).1;
          to = λ k h. (allows n m k (press_fine n m k (c.going k (omega arith) h) (c.good k (omega arith) h))).2;
          rises = λ k h. rises_on n k (allows n m (suc k) (press_fine n m (suc k) (c.going (suc k) (omega arith) h) (c.good (suc k) (omega arith) h))).3;
          end = end_marked n m p c.ends c.end_good;
        },
      )
    where
      limited : (n m : ℕ) → (leb n 4096 && leb 1 m && leb m 64) ≡ true → (n ≤ 4096) × (0 < m) × (m ≤ 64)
      limited n m e = (grind (arith, nat_tests), grind (arith, nat_tests), grind (arith, nat_tests))

  pub header_begun : header_fault bytes ≡ None → (file_states bytes ≤ 4096) × (5 ≤ length bytes)
  header_begun e =
      let head = other_none (whole_fault bytes 0 72 72 5) _ e in
      let w = whole bytes 0 72 72 5 head.0 in
      let limits = and_parts _ _ (and_parts _ _ (unless_none _ _ head.1)).0 in
      (leb-true _ _ limits.0, omega (arith, w.1))

  -- a file whose parts are all read without a fault, and whose length is that of p presses
  pub read_through : (n p : ℕ) → n ≡ file_states bytes → header_fault bytes ≡ None → states_fault bytes n ≡ None → tail_fault bytes n (file_events bytes) (length bytes) 0 ≡ None → length bytes ≡ 7 + 5 * n + 7 * p → (fault_of bytes ≡ None) × Layout bytes n (file_events bytes) p
  read_through n p is a b c long =
      let b' : states_fault bytes (file_states bytes) ≡ None = rw is at b in
      let c' : tail_fault bytes (file_states bytes) (file_events bytes) (length bytes) 0 ≡ None = rw is at c in
      let good : fault_of bytes ≡ None = other_skip (header_fault bytes) _ a ∙ (other_skip (states_fault bytes (file_states bytes)) _ b' ∙ c') in
      let (q, y) = accepted_layout good in
      let same : q ≡ p = omega (arith, y.long) in
      (good, rw is (subst (λ (x : ℕ). Layout bytes (file_states bytes) (file_events bytes) x) same y))

  module _ (n m p : ℕ) (y : Layout bytes n m p) where
    header_good : header_fault bytes ≡ None
    header_good =
        let short : 0 + 5 ≤ length bytes = omega (arith, y.long) in
        let few : file_states bytes ≤ 4096 = rw y.states_are y.few_states in
        let some : 1 ≤ file_events bytes = rw y.events_are y.some_events in
        let most : file_events bytes ≤ 64 = rw y.events_are y.few_events in
        other_skip (whole_fault bytes 0 72 72 5) _ (stands bytes 0 72 72 5 y.header.0 (inl y.header.1) short)
        ∙ cond-true _ _ _ (and_from _ _ (and_from _ _ (le-leb _ _ few) (le-leb _ _ some)) (le-leb _ _ most))

    each_state_good : (i : ℕ) → i < n → state_fault bytes (state_place i) ≡ None
    each_state_good i h =
        let long = y.long in
        let room : state_place i + 5 ≤ length bytes = omega arith in
        other_skip (whole_fault bytes (state_place i) 83 83 5) _ (stands bytes (state_place i) 83 83 5 (y.state i h).0 (inl (y.state i h).1) room)
        ∙ cond-true _ _ _ (le-leb _ _ (y.start i h))

    after_before : (k : ℕ) → k < p → (eqb k 0 || ltb (press_key bytes (press_place n (k - 1))) (press_key bytes (press_place n k))) ≡ true
    after_before zero h = refl
    after_before (suc j) h =
        let back : suc j - 1 ≡ j = omega arith in
        rw back (or_right _ _ (lt-ltb _ _ (y.rises j h)))

    each_press_good : (k : ℕ) → k < p → (is_end bytes (press_place n k) ≡ false) × (place_fault bytes n m k ≡ None)
    each_press_good k h =
        let long = y.long in
        let room : press_place n k + 7 ≤ length bytes = omega arith in
        let on : is_end bytes (press_place n k) ≡ false = ne_eqb _ _ (λ z. press_not_end _ (y.press k h).1 z) in (
          on,
          cond-false _ _ _ on
              ∙ (other_skip (whole_fault bytes (press_place n k) 80 90 7) _ (stands bytes (press_place n k) 80 90 7 (y.press k h).0 (inl (y.press k h).1) room)
              ∙ cond-true _ _ _
              (and_from _ _ (and_from _ _ (and_from _ _ (lt-ltb _ _ (y.from k h)) (lt-ltb _ _ (y.event k h))) (lt-ltb _ _ (y.to k h))) (after_before k h))),
        )
      where
        press_not_end : (b : ℕ) → b ≡ 80 → b ≡ 90 → ⊥
        press_not_end b e z = omega arith

    end_good : (is_end bytes (press_place n p) ≡ true) × (place_fault bytes n m p ≡ None) × (leb (length bytes) (press_place n p + 2) ≡ true)
    end_good =
        let long = y.long in
        let end = eq-eqb _ _ y.end.1 in
        let room : press_place n p + 2 ≤ length bytes = omega arith in
        let last : length bytes ≤ press_place n p + 2 = omega arith in (
          end,
          cond-true _ _ _ end ∙ stands bytes (press_place n p) 80 90 2 y.end.0 (inr y.end.1) room,
          le-leb _ _ last,
        )

    tail_good : (left k : ℕ) → k ≤ p → tail_fault bytes n m left k ≡ None
    tail_good zero k h = refl
    tail_good (suc left) k h =
        elim (dec_lt k p) [
          | yes lt ↦ other_skip (place_fault bytes n m k) _ (each_press_good k lt).1 ∙ (cond-false _ _ _ (each_press_good k lt).0 ∙ tail_good left (k + 1) (omega arith))
          | no ge ↦ let is : k ≡ p = omega arith in
              rw is (other_skip (place_fault bytes n m p) _ end_good.1 ∙ (cond-true _ _ _ end_good.0 ∙ cond-true _ _ _ end_good.2))
        ]

    -- and the other way round
    pub layout_accepted : fault_of bytes ≡ None
    layout_accepted =
        other_skip (header_fault bytes) _ header_good
        ∙ rw (y.states_are, y.events_are) (other_skip (states_fault bytes n) _ (states_good n each_state_good) ∙ tail_good (length bytes) 0 (omega arith))
