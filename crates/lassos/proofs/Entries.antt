-- Reading an entry of a lasso, and a label from bytes.
use Rattle.std.proofs.Common.{◌≡◌, ℕ, zero, suc, ◌+◌, ◌*◌, ◌/◌, ◌<◌, ◌≤◌, Bool, true, cond, ltb, List, [], ◌∷◌, length, get_or, Some, None, sym, refl, ap, ◌∙◌, arith}
use Rattle.std.specs.List.{slice_get}
use Rattle.std.proofs.lemmas.List.{get_or_past}
use Rattle.std.proofs.lemmas.Option.{slice_get_read}
use Rattle.std.proofs.lemmas.Bool.{lt-ltb}
use Rattle.lassos.specs.Lasso.{place, entry}
use Rattle.lassos.specs.Bytes.{byte_labels}

module _ {X : Type 0} (xs : List X) (u i : ℕ) (x : X) (h : u < length xs) where
  -- the entry at the step's position
  pub entry_at : (p : ℕ) → place (length xs) u i ≡ p → p < length xs → x ≡ get_or xs p x → Some x ≡ entry xs u i
  entry_at p e l r =
      let t : ltb u (length xs) ≡ true = lt-ltb u (length xs) h in
      sym
      (ap (λ (b : Bool). cond b (slice_get xs (place (length xs) u i)) None) t
      ∙ ap (slice_get xs) e
      ∙ slice_get_read xs (length xs) p x refl l r)

pub length_byte_labels : (bs : List ℕ) → length (byte_labels bs) ≡ length bs / 2
length_byte_labels [] = refl
length_byte_labels (low ∷ []) = refl
length_byte_labels (low ∷ high ∷ rest) = let ih = length_byte_labels rest in omega arith

pub get_or_byte_labels : (bs : List ℕ) (i : ℕ) → i < length bs / 2 → get_or (byte_labels bs) i 0 ≡ get_or bs (2 * i) 0 + 256 * get_or bs (2 * i + 1) 0
get_or_byte_labels [] i l = absurd (omega arith)
get_or_byte_labels (low ∷ []) i l = absurd (omega arith)
get_or_byte_labels (low ∷ high ∷ rest) zero l = refl
get_or_byte_labels (low ∷ high ∷ rest) (suc i) l =
    let a : 2 * suc i ≡ suc (suc (2 * i)) = omega arith in
    let b : 2 * suc i + 1 ≡ suc (suc (2 * i + 1)) = omega arith in
    rw (b, a) (get_or_byte_labels rest i (omega arith))

pub byte_labels_past : (bs : List ℕ) (i : ℕ) → length bs / 2 ≤ i → 0 ≡ get_or (byte_labels bs) i 0
byte_labels_past bs i l = let e = length_byte_labels bs in sym (get_or_past (byte_labels bs) i 0 (omega arith))
