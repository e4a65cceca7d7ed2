-- The first line of an input, by the place of the first newline.
use Rattle.std.proofs.Common.{◌≡◌, ℕ, suc, ◌+◌, ◌<◌, ◌≤◌, Bool, true, false, cond, not, eqb, ltb, List, [], ◌∷◌, length, take, drop, Some, None, Option, refl, subst, arith}
use Rattle.std.proofs.lemmas.Bool.{ltb-true, ltb-false}
use Rattle.std.specs.Prelude.{position}
use Rattle.std.specs.List.{position_or_len}
use Rattle.console.specs.Lines.{begun, lines_of}

abbrev is_newline : ℕ → Bool
is_newline byte = eqb byte 10

abbrev end_of : List ℕ → ℕ
end_of = position_or_len is_newline

cut_step : (c : Bool) (byte n : ℕ) (bytes : List ℕ) → cond (not c) (1 + n) 0 < suc (length bytes) → (n < length bytes → lines_of bytes ≡ take n bytes ∷ lines_of (drop (suc n) bytes))
    → cond c ([] ∷ lines_of bytes) (begun byte (lines_of bytes)) ≡ take (cond (not c) (1 + n) 0) (byte ∷ bytes) ∷ lines_of (drop (suc (cond (not c) (1 + n) 0)) (byte ∷ bytes))
cut_step true byte n bytes l f = refl
cut_step false byte n bytes l f = let z : 1 + n ≡ suc n = omega arith in rw z (rw (f (omega arith)) refl)

ended_line : (bytes : List ℕ) → end_of bytes < length bytes → lines_of bytes ≡ take (end_of bytes) bytes ∷ lines_of (drop (suc (end_of bytes)) bytes)
ended_line [] l = absurd (omega arith)
ended_line (byte ∷ bytes) l = cut_step (is_newline byte) byte (end_of bytes) bytes l (ended_line bytes)

only_step : (c : Bool) (byte n : ℕ) (bytes : List ℕ) → suc (length bytes) ≤ cond (not c) (1 + n) 0 → (0 < length bytes → length bytes ≤ n → lines_of bytes ≡ bytes ∷ [])
    → cond c ([] ∷ lines_of bytes) (begun byte (lines_of bytes)) ≡ (byte ∷ bytes) ∷ []
only_step true byte n bytes l f = absurd (omega arith)
only_step false byte n [] l f = refl
only_step false byte n (next ∷ bytes) l f = rw (f (omega arith) (omega arith)) refl

only_line : (bytes : List ℕ) → 0 < length bytes → length bytes ≤ end_of bytes → lines_of bytes ≡ bytes ∷ []
only_line [] some l = absurd (omega arith)
only_line (byte ∷ bytes) some l = only_step (is_newline byte) byte (end_of bytes) bytes l (only_line bytes)

found : (b : Bool) (n k : ℕ) (o : Option ℕ) → o ≡ cond b (Some n) None → o ≡ Some k → (b ≡ true) × (n ≡ k)
found true n k o e is = (refl, cc)
found false n k o e is = let clash : ◌≡◌ {A = ℕ} 0 1 = cc in absurd (omega arith)

missed : (b : Bool) (n : ℕ) (o : Option ℕ) → o ≡ cond b (Some n) None → o ≡ None → b ≡ false
missed true n o e is = let clash : ◌≡◌ {A = ℕ} 0 1 = cc in absurd (omega arith)
missed false n o e is = refl

module _ (bytes : List ℕ) (o : Option ℕ) (e : o ≡ position is_newline bytes) where
  pub cut_at : (end : ℕ) → o ≡ Some end → lines_of bytes ≡ take end bytes ∷ lines_of (drop (end + 1) bytes)
  cut_at end is =
      let f = found (ltb (end_of bytes) (length bytes)) (end_of bytes) end o e is in
      let l = ltb-true (end_of bytes) (length bytes) f.0 in
      let z : suc end ≡ end + 1 = omega arith in
      let P : ℕ → Type 0 = λ n. lines_of bytes ≡ take n bytes ∷ lines_of (drop (suc n) bytes) in
      rw (← z) (subst P f.1 (ended_line bytes l))

  pub not_cut : 0 < length bytes → o ≡ None → lines_of bytes ≡ bytes ∷ []
  not_cut some is = only_line bytes some (ltb-false (end_of bytes) (length bytes) (missed (ltb (end_of bytes) (length bytes)) (end_of bytes) o e is))
