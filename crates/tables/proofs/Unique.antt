-- Two good files with one table have the same bytes.
use Rattle.std.proofs.Common.{◌≡◌, ℕ, zero, suc, ◌+◌, ◌-◌, ◌*◌, ◌/◌, ◌%◌, ◌<◌, ◌≤◌, false, eqb, List, length, sym, ap, ◌∙◌, subst, arith}
use native.Mathlib.Decide.{dec_lt}
use Rattle.std.proofs.lemmas.Bool.Decides.{nat_tests}
use Rattle.std.proofs.lemmas.List.{ext_get_or}
use Rattle.std.proofs.lemmas.Bool.{cond-true, lt-ltb}
use Rattle.tables.specs.Table.{Table}
use Rattle.tables.specs.Files.{byte, word, file_states, file_events, state_place, press_place, press_from, press_event, press_to, press_key, Marked, Layout, found, filed, Ordered, Bytes, file_table, AcceptedByLayout, TablesTellFiles}
use Rattle.tables.proofs.Same.{some_same}
use Rattle.tables.proofs.Files.{accepted_layout, layout_accepted}
use Rattle.tables.proofs.Filed.{Listed, listed_from, found_at, layout_exist, layout_ordered, good_file}

-- the two bytes of a number
split : (a b : List ℕ) (i : ℕ) → Bytes a → Bytes b → word a i ≡ word b i → (byte a i ≡ byte b i) × (byte a (i + 1) ≡ byte b (i + 1))
split a b i fa fb e =
    let a0 = fa i in let a1 = fa (i + 1) in let b0 = fb i in let b1 = fb (i + 1) in (omega arith, omega arith)

-- what a file's presses say of another with the same next states
module _ (a b : List ℕ) (n m p q : ℕ) (ya : Layout a n m p) (yb : Layout b n m q) (same : (s e : ℕ) → found a n s e p ≡ found b n s e q) where
  pub also : (k : ℕ) → k < p → Listed b n (press_from a (press_place n k)) (press_event a (press_place n k)) (press_to a (press_place n k)) q
  also k h =
      let at = press_place n k in
      listed_from b n (press_from a at) (press_event a at) (press_to a at) q
      (sym (same (press_from a at) (press_event a at)) ∙ found_at a n p m ya.few_events (layout_exist a n m p ya) (layout_ordered a n m p ya) k h p h (omega arith))

  pub also_key : (k : ℕ) (h : k < p) → press_key b (press_place n (also k h).at) ≡ press_key a (press_place n k)
  also_key k h = let l = also k h in let x = l.from_is in let y = l.event_is in omega arith

-- so their presses are the same, one by one
module _ (a b : List ℕ) (n m p q : ℕ) (ya : Layout a n m p) (yb : Layout b n m q) (same : (s e : ℕ) → found a n s e p ≡ found b n s e q) where
  abbrev Match : ℕ → Type 0
  Match k = (k < q) × (press_key a (press_place n k) ≡ press_key b (press_place n k))

  matches : (k : ℕ) → ((j : ℕ) → j < k → j < p → Match j) → k < p → Match k
  matches k before h =
      let l = also a b n m p q ya yb same k h in
      let i = l.at in
      let key_i = also_key a b n m p q ya yb same k h in
      let above : k ≤ i = not_below i k (λ lt. let i<p : i < p = omega arith in
      omega (arith, (before i lt i<p).1, key_i, layout_ordered a n m p ya i k lt h)) in
      let k<q : k < q = omega (arith, l.listed) in
      let down : press_key b (press_place n k) ≤ press_key b (press_place n i) = rising b n q (layout_ordered b n m q yb) k i above l.listed in
      let r = also b a n m q p yb ya (λ s e. sym (same s e)) k k<q in
      let i' = r.at in
      let key_i' = also_key b a n m q p yb ya (λ s e. sym (same s e)) k k<q in
      let above' : k ≤ i' = not_below i' k (λ lt. let i<p : i' < p = r.listed in
      omega (arith, (before i' lt i<p).1, key_i', layout_ordered b n m q yb i' k lt k<q)) in
      let down' : press_key a (press_place n k) ≤ press_key a (press_place n i') = rising a n p (layout_ordered a n m p ya) k i' above' r.listed in
      (k<q, omega (arith, down, down', key_i, key_i'))
    where
      not_below : (i k : ℕ) → (i < k → ⊥) → k ≤ i
      not_below i k no' = elim (dec_lt i k) [ yes lt ↦ absurd (no' lt) | no ge ↦ omega arith ]

      rising : (c : List ℕ) (n r : ℕ) → Ordered c n r → (j k : ℕ) → j ≤ k → k < r → press_key c (press_place n j) ≤ press_key c (press_place n k)
      rising c n r ordered j k le h =
          elim (dec_lt j k) [ yes lt ↦ omega (arith, ordered j k lt h) | no ge ↦ let is : j ≡ k = omega arith in rw is (omega arith) ]

  below : (k : ℕ) → (j : ℕ) → j < k → j < p → Match j
  below zero j lt h = absurd (omega arith)
  below (suc k) j lt h = elim (dec_lt j k) [ yes less ↦ below k j less h | no ge ↦ matches j (λ i less. below k i (omega arith)) h ]

  pub match : (k : ℕ) → k < p → Match k
  match k h = below (suc k) k (omega arith) h

  pub no_more : p ≤ q
  no_more = elim (dec_lt 0 p) [ yes some ↦ let last : p - 1 < p = omega arith in omega (arith, (match (p - 1) last).0) | no none ↦ omega arith ]

  pub same_from : (k : ℕ) → k < p → press_from a (press_place n k) ≡ press_from b (press_place n k)
  same_from k h = let g = match k h in omega (arith, g.1, ya.event k h, yb.event k g.0, ya.few_events)

  pub same_event : (k : ℕ) → k < p → press_event a (press_place n k) ≡ press_event b (press_place n k)
  same_event k h = let g = match k h in omega (arith, g.1, ya.event k h, yb.event k g.0, ya.few_events)

  pub same_to : (k : ℕ) → k < p → press_to a (press_place n k) ≡ press_to b (press_place n k)
  same_to k h =
      let at = press_place n k in
      let k<q = (match k h).0 in
      let left = found_at a n p m ya.few_events (layout_exist a n m p ya) (layout_ordered a n m p ya) k h p h (omega arith) in
      let right = found_at b n q m yb.few_events (layout_exist b n m q yb) (layout_ordered b n m q yb) k k<q q k<q (omega arith) in
      some_same (sym left ∙ (same (press_from a at) (press_event a at)
      ∙ (ap (λ (x : ℕ). found b n x (press_event a at) q) (same_from k h) ∙ (ap (λ (x : ℕ). found b n (press_from b at) x q) (same_event k h) ∙ right))))

five : (P : ℕ → Type 0) → P 0 → P 1 → P 2 → P 3 → P 4 → (r : ℕ) → r < 5 → P r
five P a b c d e zero h = a
five P a b c d e (suc zero) h = b
five P a b c d e (suc (suc zero)) h = c
five P a b c d e (suc (suc (suc zero))) h = d
five P a b c d e (suc (suc (suc (suc zero)))) h = e
five P a b c d e (suc (suc (suc (suc (suc r))))) h = absurd (omega arith)

-- and with equal states too, so are their bytes
module _ (a b : List ℕ) (fa : Bytes a) (fb : Bytes b) (n m p q : ℕ) (ya : Layout a n m p) (yb : Layout b n m q) (states : (s : ℕ) → (filed a n m p).start s ≡ (filed b n m q).start s) (labels : (s : ℕ) → (filed a n m p).label s ≡ (filed b n m q).label s) (same : (s e : ℕ) → found a n s e p ≡ found b n s e q) where
  abbrev Same : ℕ → Type 0
  Same i = byte a i ≡ byte b i

  presses_same : p ≡ q
  presses_same = omega (arith, no_more a b n m p q ya yb same, no_more b a n m q p yb ya (λ s e. sym (same s e)))

  header_same : (r : ℕ) → r < 5 → Same r
  header_same =
      let w = split a b 2 fa fb (ya.states_are ∙ sym yb.states_are) in
      five Same (ya.header.0 ∙ sym yb.header.0) (ya.header.1 ∙ sym yb.header.1) w.0 w.1 (ya.events_are ∙ sym yb.events_are)

  label_same : (s : ℕ) → s < n → word a (state_place s + 2) ≡ word b (state_place s + 2)
  label_same s h =
      let here = lt-ltb s n h in
      sym (cond-true _ (word a (state_place s + 2)) 0 here) ∙ (labels s ∙ cond-true _ (word b (state_place s + 2)) 0 here)

  start_same : (s : ℕ) → s < n → Same (state_place s + 4)
  start_same s h =
      let here = lt-ltb s n h in
      let marks : eqb (byte a (state_place s + 4)) 1 ≡ eqb (byte b (state_place s + 4)) 1 =
      sym (cond-true _ (eqb (byte a (state_place s + 4)) 1) false here) ∙ (states s ∙ cond-true _ (eqb (byte b (state_place s + 4)) 1) false here) in
      zero_or_one (byte a (state_place s + 4)) (byte b (state_place s + 4)) (ya.start s h) (yb.start s h) marks
    where
      zero_or_one : (x y : ℕ) → x ≤ 1 → y ≤ 1 → eqb x 1 ≡ eqb y 1 → x ≡ y
      zero_or_one x y hx hy e = grind (arith, nat_tests)

  state_same : (s : ℕ) → s < n → (r : ℕ) → r < 5 → Same (state_place s + r)
  state_same s h =
      let at = state_place s in
      let w = split a b (at + 2) fa fb (label_same s h) in
      let third : at + 3 ≡ at + 2 + 1 = omega arith in
      let none : at + 0 ≡ at = omega arith in
      five (λ r. Same (at + r)) (rw none ((ya.state s h).0 ∙ sym (yb.state s h).0)) ((ya.state s h).1 ∙ sym (yb.state s h).1) w.0 (rw third w.1) (start_same s h)

  press_same : (k : ℕ) → k < p → (r : ℕ) → r < 7 → Same (press_place n k + r)
  press_same k h r below =
      let at = press_place n k in
      let k<q : k < q = omega (arith, presses_same) in
      let f = split a b (at + 2) fa fb (same_from a b n m p q ya yb same k h) in
      let t = split a b (at + 5) fa fb (same_to a b n m p q ya yb same k h) in
      let third : at + 3 ≡ at + 2 + 1 = omega arith in
      let sixth : at + 6 ≡ at + 5 + 1 = omega arith in
      let none : at + 0 ≡ at = omega arith in
      let first : (r : ℕ) → r < 5 → Same (at + r) =
      five (λ r. Same (at + r)) (rw none ((ya.press k h).0 ∙ sym (yb.press k k<q).0)) ((ya.press k h).1 ∙ sym (yb.press k k<q).1) f.0 (rw third f.1) (same_event a b n m p q ya yb same k h)
      in
      elim (dec_lt r 5) [
        | yes lt ↦ first r lt
        | no ge ↦ elim (dec_lt r 6) [
          | yes lt ↦ let is : r ≡ 5 = omega arith in rw is t.0
          | no ge' ↦ let is : r ≡ 6 = omega arith in rw (is, sixth) t.1
        ]
      ]

  end_same : (r : ℕ) → r < 2 → Same (press_place n p + r)
  end_same r below =
      let end : Marked b (press_place n p) 90 = rw presses_same yb.end in
      let none : press_place n p + 0 ≡ press_place n p = omega arith in
      elim (dec_lt r 1) [
        | yes lt ↦ let is : r ≡ 0 = omega arith in rw (is, none) (ya.end.0 ∙ sym end.0)
        | no ge ↦ let is : r ≡ 1 = omega arith in rw is (ya.end.1 ∙ sym end.1)
      ]

  each_same : (i : ℕ) → i < length a → Same i
  each_same i h =
      let long = ya.long in
      elim (dec_lt i 5) [
        | yes lt ↦ header_same i lt
        | no ge ↦ elim (dec_lt i (5 + 5 * n)) [
          | yes lt ↦
              let is : state_place ((i - 5) / 5) + (i - 5) % 5 ≡ i = omega arith in
              subst Same is (state_same ((i - 5) / 5) (omega arith) ((i - 5) % 5) (omega arith))
          | no ge' ↦ elim (dec_lt i (press_place n p)) [
            | yes lt ↦
                let is : press_place n ((i - (5 + 5 * n)) / 7) + (i - (5 + 5 * n)) % 7 ≡ i = omega arith in
                subst Same is (press_same ((i - (5 + 5 * n)) / 7) (omega arith) ((i - (5 + 5 * n)) % 7) (omega arith))
            | no ge'' ↦
                let is : press_place n p + (i - press_place n p) ≡ i = omega arith in
                subst Same is (end_same (i - press_place n p) (omega arith))
          ]
        ]
      ]

  pub bytes_same : a ≡ b
  bytes_same = ext_get_or 0 a b (ya.long ∙ (ap (λ (x : ℕ). 7 + 5 * n + 7 * x) presses_same ∙ sym yb.long)) each_same

pub accepted_by_layout : AcceptedByLayout
accepted_by_layout bytes = (
  λ good. let (p, y) = accepted_layout bytes good in (file_states bytes, file_events bytes, p, y),
  λ allowed. layout_accepted bytes allowed.0 allowed.1 allowed.2 allowed.3,
)

pub tables_tell_files : TablesTellFiles
tables_tell_files a b fa fb ga gb = (
  λ e.
      let (p, ya) = accepted_layout a ga in
      let (q, yb) = accepted_layout b gb in
      let same : filed a (file_states a) (file_events a) p ≡ filed b (file_states b) (file_events b) q =
      good_file a (file_states a) (file_events a) p ya ga ∙ (e ∙ sym (good_file b (file_states b) (file_events b) q yb gb))
      in
      told a b fa fb (file_states a) (file_events a) (file_states b) (file_events b) p q ya yb same,
  ap file_table,
)
  where
    told : (a b : List ℕ) → Bytes a → Bytes b → (n m n' m' p q : ℕ) → Layout a n m p → Layout b n' m' q → filed a n m p ≡ filed b n' m' q → a ≡ b
    told a b fa fb n m n' m' p q ya yb e =
        let ns : n' ≡ n = sym (ap (λ (t : Table). t.states) e) in
        let ms : m' ≡ m = sym (ap (λ (t : Table). t.events) e) in
        let yb' : Layout b n m q = subst (λ (x : ℕ). Layout b n x q) ms (subst (λ (x : ℕ). Layout b x m' q) ns yb) in
        let e' : filed a n m p ≡ filed b n m q = e ∙ (ap (λ (x : ℕ). filed b x m' q) ns ∙ ap (λ (x : ℕ). filed b n x q) ms) in
        bytes_same a b fa fb n m p q ya yb' (λ s. ap (λ (t : Table). t.start s) e') (λ s. ap (λ (t : Table). t.label s) e') (λ s k. ap (λ (t : Table). t.next s k) e')
