-- The lines of an input, one at a time and all of them.
use Rattle.std.proofs.Common.{◌≡◌, ℕ, zero, suc, ◌+◌, ◌<◌, Bool, true, false, cond, eqb, ◌⊎◌, List, [], ◌∷◌, length, get_or, take, drop, sym, refl, ap, ◌∙◌, inl, inr, arith}
use Rattle.std.specs.List.{flat_map}
use Rattle.std.proofs.lemmas.List.{take_all, drop_all}
use Rattle.std.proofs.lemmas.Bool.{eq-eqb, ne_eqb, eqb-true, eqb-false, cond-true, cond-false}
use Rattle.console.specs.Lines.{begun, lines_of, ended, NewlineLacks, NoNewline, SplitInto, Splits}

at_newline : (byte : ℕ) (bytes : List ℕ) → byte ≡ 10 → lines_of (byte ∷ bytes) ≡ [] ∷ lines_of bytes
at_newline byte bytes e = cond-true (eqb byte 10) ([] ∷ lines_of bytes) (begun byte (lines_of bytes)) (eq-eqb byte 10 e)

at_other : (byte : ℕ) (bytes : List ℕ) → (byte ≡ 10 → ⊥) → lines_of (byte ∷ bytes) ≡ begun byte (lines_of bytes)
at_other byte bytes n = cond-false (eqb byte 10) ([] ∷ lines_of bytes) (begun byte (lines_of bytes)) (ne_eqb byte 10 n)

ended_line : (bytes : List ℕ) (k : ℕ) → k < length bytes → ((i : ℕ) → i < k → get_or bytes i 0 ≡ 10 → ⊥) → get_or bytes k 0 ≡ 10 → lines_of bytes ≡ take k bytes ∷ lines_of (drop (suc k) bytes)
ended_line [] k h none e = absurd (omega arith)
ended_line (byte ∷ bytes) zero h none e = at_newline byte bytes e
ended_line (byte ∷ bytes) (suc k) h none e =
    at_other byte bytes (none 0 (omega arith)) ∙ ap (begun byte) (ended_line bytes k (omega arith) (λ i l. none (suc i) (omega arith)) e)

last_line : (byte : ℕ) (bytes : List ℕ) → ((i : ℕ) → i < suc (length bytes) → get_or (byte ∷ bytes) i 0 ≡ 10 → ⊥) → lines_of (byte ∷ bytes) ≡ (byte ∷ bytes) ∷ []
last_line byte [] none = at_other byte [] (none 0 (omega arith))
last_line byte (next ∷ bytes) none = at_other byte (next ∷ bytes) (none 0 (omega arith)) ∙ ap (begun byte) (last_line next bytes (λ i l. none (suc i) (omega arith)))

-- a line that is all there is
pub only_line : (bytes : List ℕ) → 0 < length bytes → ((i : ℕ) → i < length bytes → get_or bytes i 0 ≡ 10 → ⊥) → lines_of bytes ≡ take (length bytes) bytes ∷ lines_of (drop (length bytes + 1) bytes)
only_line [] h none = absurd (omega arith)
only_line (byte ∷ bytes) h none =
    let all = byte ∷ bytes in
    let one : take (length all) all ≡ all = take_all (length all) all (omega arith) in
    let past : drop (length all + 1) all ≡ [] = drop_all (length all + 1) all (omega arith) in
    let rest : lines_of (drop (length all + 1) all) ≡ [] = ap lines_of past in
    last_line byte bytes none ∙ ap (λ (l : List ℕ). l ∷ []) (sym one) ∙ ap (λ (ls : List (List ℕ)). take (length all) all ∷ ls) (sym rest)

-- The law.

more_lacking : (byte : ℕ) (bytes : List ℕ) → NewlineLacks bytes → NewlineLacks (byte ∷ bytes)
more_lacking byte bytes (front, last, e, n) = (byte ∷ front, last, ap (λ (l : List ℕ). byte ∷ l) e, n)

newline_first : (byte : ℕ) (bytes : List ℕ) (lines : List (List ℕ)) → byte ≡ 10 → SplitInto bytes lines → SplitInto (byte ∷ bytes) ([] ∷ lines)
newline_first byte bytes lines e s = record { whole = whole s.whole; clean = clean }
  where
    front : (l : List ℕ) → flat_map ended lines ≡ l → 10 ∷ flat_map ended lines ≡ byte ∷ l
    front l x = cc

    whole : (flat_map ended lines ≡ bytes) ⊎ (NewlineLacks bytes × (flat_map ended lines ≡ ended bytes)) → (10 ∷ flat_map ended lines ≡ byte ∷ bytes) ⊎ (NewlineLacks (byte ∷ bytes) × (10 ∷ flat_map ended lines ≡ byte ∷ ended bytes))
    whole (inl x) = inl (front bytes x)
    whole (inr x) = inr (more_lacking byte bytes x.0, front (ended bytes) x.1)

    clean : (i : ℕ) → i < suc (length lines) → NoNewline (get_or ([] ∷ lines) i [])
    clean zero h = λ j l x. absurd (omega arith)
    clean (suc i) h = s.clean i (omega arith)

nothing_left : (bytes : List ℕ) → ([] ≡ bytes) ⊎ (NewlineLacks bytes × ([] ≡ ended bytes)) → bytes ≡ []
nothing_left [] h = refl
nothing_left (byte ∷ bytes) (inl x) = let clash : ◌≡◌ {A = ℕ} 0 1 = cc in absurd (omega arith)
nothing_left (byte ∷ bytes) (inr x) = let clash : ◌≡◌ {A = ℕ} 0 1 = cc x.1 in absurd (omega arith)

other_first : (byte : ℕ) (bytes : List ℕ) (lines : List (List ℕ)) → (byte ≡ 10 → ⊥) → SplitInto bytes lines → SplitInto (byte ∷ bytes) (begun byte lines)
other_first byte bytes [] n s =
    let none = nothing_left bytes s.whole in
    record {
      whole = inr (([], byte, ap (λ (l : List ℕ). byte ∷ l) none, n), ap (λ (l : List ℕ). byte ∷ ended l) (sym none));
      clean = clean;
    }
  where
    alone : (j : ℕ) → j < 1 → get_or (byte ∷ []) j 0 ≡ 10 → ⊥
    alone zero l x = n x
    alone (suc j) l x = absurd (omega arith)

    clean : (i : ℕ) → i < 1 → NoNewline (get_or ((byte ∷ []) ∷ []) i [])
    clean zero h = alone
    clean (suc i) h = absurd (omega arith)
other_first byte bytes (line ∷ lines) n s = record { whole = whole s.whole; clean = clean }
  where
    rest : List ℕ
    rest = flat_map ended (line ∷ lines)

    whole : (rest ≡ bytes) ⊎ (NewlineLacks bytes × (rest ≡ ended bytes)) → (byte ∷ rest ≡ byte ∷ bytes) ⊎ (NewlineLacks (byte ∷ bytes) × (byte ∷ rest ≡ byte ∷ ended bytes))
    whole (inl x) = inl (ap (λ (l : List ℕ). byte ∷ l) x)
    whole (inr x) = inr (more_lacking byte bytes x.0, ap (λ (l : List ℕ). byte ∷ l) x.1)

    first : (j : ℕ) → j < suc (length line) → get_or (byte ∷ line) j 0 ≡ 10 → ⊥
    first zero l x = n x
    first (suc j) l x = s.clean 0 (omega arith) j (omega arith) x

    clean : (i : ℕ) → i < suc (length lines) → NoNewline (get_or ((byte ∷ line) ∷ lines) i [])
    clean zero h = first
    clean (suc i) h = s.clean (suc i) (omega arith)

pub splits : Splits
splits [] = record { whole = inl refl; clean = λ i h. absurd (omega arith) }
splits (byte ∷ bytes) = go (eqb byte 10) refl (splits bytes)
  where
    go : (b : Bool) → eqb byte 10 ≡ b → SplitInto bytes (lines_of bytes) → SplitInto (byte ∷ bytes) (cond b ([] ∷ lines_of bytes) (begun byte (lines_of bytes)))
    go true e s = newline_first byte bytes (lines_of bytes) (eqb-true byte 10 e) s
    go false e s = other_first byte bytes (lines_of bytes) (eqb-false byte 10 e) s
