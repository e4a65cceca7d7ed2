-- Presses as records of seven bytes, and what a binary search among them finds.
use Rattle.std.proofs.Common.{◌≡◌, ℕ, zero, suc, ◌+◌, ◌*◌, ◌/◌, ◌<◌, ◌≤◌, List, [], length, get_or, take, drop, Ok, Err, Result, Ordering, Less, Equal, Greater, sym, refl, ap, ◌∙◌, arith}
use native.Mathlib.Decide.{dec_lt}
use Rattle.std.specs.Cmp.{ranked}
use Rattle.std.specs.Ordering.{nat_cmp, ordering_index}
use Rattle.std.specs.Result.{result_ok}
use Rattle.std.specs.List.Sorted.{IsNonDecreasingBy, IsSearchInRange, IsBinarySearchResult}
use Rattle.std.specs.Simd.{first_chunks}
use Rattle.std.proofs.lemmas.List.{get_or-take, get_or-drop, drop-drop, length-take, length-drop}
use Rattle.tables.specs.Files.{byte, press_key, press_place, Room, Ordered, Place}

chunk_at : (k i o : ℕ) (xs d : List ℕ) → i < k → o ≡ i * 7 → get_or (first_chunks 7 k xs) i d ≡ take 7 (drop o xs)
chunk_at zero i o xs d h is = absurd (omega arith)
chunk_at (suc k) zero o xs d h is = let none : o ≡ 0 = omega arith in rw none refl
chunk_at (suc k) (suc i) o xs d h is =
    let e : 7 + i * 7 ≡ o = omega arith in
    chunk_at k i (i * 7) (drop 7 xs) d (omega arith) refl ∙ ap (take 7) (drop-drop (i * 7) 7 xs ∙ ap (λ (m : ℕ). drop m xs) e)

pub how_many : (k : ℕ) (xs : List ℕ) → length (first_chunks 7 k xs) ≡ k
how_many zero xs = refl
how_many (suc k) xs = ap (λ (n : ℕ). suc n) (how_many k (drop 7 xs))

byte_in : (bytes : List ℕ) (first p i j at : ℕ) → i < p → j < 7 → at ≡ first + 7 * i + j → byte (take 7 (drop (i * 7) (take (7 * p) (drop first bytes)))) j ≡ byte bytes at
byte_in bytes first p i j at h low is =
    let e : first + (i * 7 + j) ≡ at = omega arith in
    get_or-take 7 (drop (i * 7) (take (7 * p) (drop first bytes))) j 0 low
    ∙ (get_or-drop (i * 7) (take (7 * p) (drop first bytes)) j 0
    ∙ (get_or-take (7 * p) (drop first bytes) (i * 7 + j) 0 (omega arith) ∙ (get_or-drop first bytes (i * 7 + j) 0 ∙ ap (λ (m : ℕ). get_or bytes m 0) e)))

key_from : (x y : List ℕ) (at : ℕ) → byte x 2 ≡ byte y (at + 2) → byte x 3 ≡ byte y (at + 2 + 1) → byte x 4 ≡ byte y (at + 4) → press_key x 0 ≡ press_key y at
key_from x y at a b c = cc

-- the i-th press among the records
pub press_at : (bytes d : List ℕ) (n p i : ℕ) → i < p → press_key (get_or (first_chunks 7 p (take (7 * p) (drop (5 + 5 * n) bytes))) i d) 0 ≡ press_key bytes (press_place n i)
press_at bytes d n p i h =
    let at : ℕ = press_place n i in
    let x = take 7 (drop (i * 7) (take (7 * p) (drop (5 + 5 * n) bytes))) in
    ap (λ (y : List ℕ). press_key y 0) (chunk_at p i (i * 7) (take (7 * p) (drop (5 + 5 * n) bytes)) d h refl)
    ∙ key_from x bytes at (byte_in bytes (5 + 5 * n) p i 2 (at + 2) h (omega arith) (omega arith)) (byte_in bytes (5 + 5 * n) p i 3 (at + 2 + 1) h (omega arith) (omega arith))
    (byte_in bytes (5 + 5 * n) p i 4 (at + 4) h (omega arith) (omega arith))

-- the records that are searched
pub records_are : (raw items : List ℕ) (n p m : ℕ) (xs : List (List ℕ)) → raw ≡ items → Room items n p → m ≡ 7 * p
    → xs ≡ first_chunks 7 (length (take m (drop (5 + 5 * n) raw)) / 7) (take m (drop (5 + 5 * n) raw)) → xs ≡ first_chunks 7 p (take (7 * p) (drop (5 + 5 * n) items))
records_are raw items n p m xs same room size is =
    let slice : List ℕ = take (7 * p) (drop (5 + 5 * n) items) in
    let long : length slice / 7 ≡ p = omega (arith, length-take (7 * p) (drop (5 + 5 * n) items), length-drop (5 + 5 * n) items) in
    is
    ∙ (ap (λ (k : ℕ). first_chunks 7 (length (take k (drop (5 + 5 * n) raw)) / 7) (take k (drop (5 + 5 * n) raw))) size
    ∙ (ap (λ (b : List ℕ). first_chunks 7 (length (take (7 * p) (drop (5 + 5 * n) b)) / 7) (take (7 * p) (drop (5 + 5 * n) b))) same
    ∙ ap (λ (k : ℕ). first_chunks 7 k slice) long))

rises : (u v x : ℕ) (r s : Ordering) → r ≡ nat_cmp u x → s ≡ nat_cmp v x → u ≤ v → ordering_index r ≤ ordering_index s
rises u v x Less s e f le = omega arith
rises u v x Equal Less e f le = let a : u ≡ x = ranked u x Equal e in let b : v < x = ranked v x Less f in absurd (omega arith)
rises u v x Equal Equal e f le = omega arith
rises u v x Equal Greater e f le = omega arith
rises u v x Greater Less e f le = let a : x < u = ranked u x Greater e in let b : v < x = ranked v x Less f in absurd (omega arith)
rises u v x Greater Equal e f le = let a : x < u = ranked u x Greater e in let b : v ≡ x = ranked v x Equal f in absurd (omega arith)
rises u v x Greater Greater e f le = omega arith

module _ (bytes : List ℕ) (n p x : ℕ) (xs : List (List ℕ)) (ordered : Ordered bytes n p) (long : length xs ≡ p) (same : (i : ℕ) (d : List ℕ) → i < p → press_key (get_or xs i d) 0 ≡ press_key bytes (press_place n i)) where
  in_order : IsNonDecreasingBy (λ y. ordering_index (nat_cmp (press_key y 0) x)) xs
  in_order a b d le lt =
      rises (press_key (get_or xs a d) 0) (press_key (get_or xs b d) 0) x _ _ refl refl
      (elim (dec_lt a b) [
        | yes h ↦ omega (arith, same a d (omega arith), same b d (omega arith), ordered a b h (omega arith))
        | no h ↦ let is : a ≡ b = omega arith in rw is (omega arith)
      ])

  pub found_place : (r : Result ℕ ℕ) → IsSearchInRange r (length xs) → IsBinarySearchResult (λ y. nat_cmp (press_key y 0) x) xs r → Place bytes n p x (result_ok r)
  found_place (Ok i) bound found = (omega (arith, bound), sym (same i [] (omega (arith, bound))) ∙ ranked (press_key (get_or xs i []) 0) x Equal (sym (found [])))
  found_place (Err i) bound found =
      let parts = found in_order in
      λ k h is. elim (dec_lt k i) [
        | yes lt ↦ let below : press_key (get_or xs k []) 0 < x = ranked _ x Less (sym (parts.0 k [] (omega arith) lt)) in absurd (omega (arith, same k [] h))
        | no ge ↦ let above : x < press_key (get_or xs k []) 0 = ranked _ x Greater (sym (parts.1 k [] (omega arith) (omega arith))) in absurd (omega (arith, same k [] h))
      ]
