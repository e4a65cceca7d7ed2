-- The written text of a formula is a text of it, and the only shortest one.
use Rattle.std.proofs.Common.{◌≡◌, ℕ, suc, ◌+◌, ◌<◌, ◌≤◌, true, false, ltb, ◌⊎◌, List, [], ◌∷◌, ◌++◌, length, sym, refl, ap, ◌∙◌, ap₂, inl, inr, arith, lit<, lit≤, length-append}
use Rattle.std.proofs.lemmas.Bool.{lt-ltb, le-ltb, ltb-true, ltb-false, cases_Bool}
use Rattle.formulas.specs.declared.Infix.{Infix}
use Rattle.formulas.specs.declared.Infix.TheVariants.{Implies, Or, And, Until, Release}
use Rattle.formulas.specs.Formula.{Formula, constant, letter, unary, binary}
use Rattle.formulas.specs.Sign.{prefix_sign, infix_sign}
use Rattle.formulas.specs.Grammar.{level, left, right, Text, zero_text, one_text, letter_text, prefixed, bracketed, joined, tighter, blank_before, blank_after, Reads}
use Rattle.formulas.specs.Written.{in_brackets, written_at, written}
use Rattle.formulas.proofs.Sound.{loosen, level_low, left_low, left_high, right_low, right_high}

-- every letter is one of a to p
abbrev pub Lettered : Formula → Type 0
Lettered (constant b) = Unit {0}
Lettered (letter a) = a < 16
Lettered (unary op f) = Lettered f
Lettered (binary op f g) = Lettered f × Lettered g

pub text_lettered : {l : ℕ} {s : List ℕ} {f : Formula} → Text l s f → Lettered f
text_lettered zero_text = tt
text_lettered one_text = tt
text_lettered (letter_text a h) = h
text_lettered (prefixed op t) = text_lettered t
text_lettered (bracketed t) = text_lettered t
text_lettered (joined op a b) = (text_lettered a, text_lettered b)
text_lettered (tighter low t) = text_lettered t
text_lettered (blank_before t) = text_lettered t
text_lettered (blank_after t) = text_lettered t

level_high : (op : Infix) → level op < 5
level_high Implies = lit< tt
level_high Or = lit< tt
level_high And = lit< tt
level_high Until = lit< tt
level_high Release = lit< tt

-- the two sides and the sign, with no brackets
abbrev bare : Infix → Formula → Formula → List ℕ
bare op f g = written_at (left op) f ++ (infix_sign op ++ written_at (right op) g)

pub written_in : (l : ℕ) (op : Infix) (f g : Formula) → level op < l → written_at l (binary op f g) ≡ in_brackets (bare op f g)
written_in l op f g h = let e : ltb (level op) l ≡ true = lt-ltb (level op) l h in rw e

pub written_bare : (l : ℕ) (op : Infix) (f g : Formula) → l ≤ level op → written_at l (binary op f g) ≡ bare op f g
written_bare l op f g h = let e : ltb (level op) l ≡ false = le-ltb (level op) l h in rw e

pub written_text : (f : Formula) → Lettered f → (l : ℕ) → 1 ≤ l → l ≤ 5 → Text l (written_at l f) f
written_text (constant false) h l low high = loosen low high zero_text
written_text (constant true) h l low high = loosen low high one_text
written_text (letter a) h l low high = loosen low high (letter_text a h)
written_text (unary op f) h l low high = loosen low high (prefixed op (written_text f h 5 (lit≤ tt) (lit≤ tt)))
written_text (binary op f g) h l low high =
    let body : Text (level op) (bare op f g) (binary op f g) = joined op (written_text f h.0 (left op) (left_low op) (left_high op)) (written_text g h.1 (right op) (right_low op) (right_high op)) in
    elim (cases_Bool (ltb (level op) l)) [
      | inl e ↦ rw (written_in l op f g (ltb-true (level op) l e)) (loosen low high (bracketed (loosen (lit≤ tt) (level_low op) body)))
      | inr e ↦ rw (written_bare l op f g (ltb-false (level op) l e)) (loosen low (ltb-false (level op) l e) body)
    ]

-- it is that text, or it is longer
abbrev Beside : List ℕ → List ℕ → Type 0
Beside w s = (s ≡ w) ⊎ (length w < length s)

length_brackets : (s : List ℕ) → length (in_brackets s) ≡ length s + 2
length_brackets s = let e = length-append s (41 ∷ []) in omega (arith, e)

-- in the tightest place the text is the same as in the loosest, or stands in brackets
wrapped : (f : Formula) → (written_at 5 f ≡ written_at 1 f) ⊎ (written_at 5 f ≡ in_brackets (written_at 1 f))
wrapped (constant false) = inl refl
wrapped (constant true) = inl refl
wrapped (letter a) = inl refl
wrapped (unary op f) = inl refl
wrapped (binary op f g) = inr (written_in 5 op f g (level_high op) ∙ ap in_brackets (sym (written_bare 1 op f g (level_low op))))

-- in a looser place the text is the same, or shorter
relaxed : (l : ℕ) (f : Formula) → Beside (written_at l f) (written_at (suc l) f)
relaxed l (constant false) = inl refl
relaxed l (constant true) = inl refl
relaxed l (letter a) = inl refl
relaxed l (unary op f) = inl refl
relaxed l (binary op f g) =
    elim (cases_Bool (ltb (level op) l)) [
      | inl e ↦ let lt = ltb-true (level op) l e in inl (written_in (suc l) op f g (omega arith) ∙ sym (written_in l op f g lt))
      | inr e ↦
          let ge = ltb-false (level op) l e in
          elim (cases_Bool (ltb (level op) (suc l))) [
            | inl k ↦ let lt = ltb-true (level op) (suc l) k in inr (rw (written_in (suc l) op f g lt, written_bare l op f g ge) (omega (arith, length_brackets (bare op f g))))
            | inr k ↦ let ge2 = ltb-false (level op) (suc l) k in inl (written_bare (suc l) op f g ge2 ∙ sym (written_bare l op f g ge))
          ]
    ]

longer : (w s t : List ℕ) → Beside w s → length s < length t → Beside w t
longer w s t (inl e) h = let n : length s ≡ length w = ap length e in inr (omega arith)
longer w s t (inr k) h = inr (omega arith)

cons_beside : (b : ℕ) (w s : List ℕ) → Beside w s → Beside (b ∷ w) (b ∷ s)
cons_beside b w s (inl e) = inl (ap (λ (x : List ℕ). b ∷ x) e)
cons_beside b w s (inr h) = inr (omega arith)

bracket_beside : (w s : List ℕ) → Beside w s → Beside (in_brackets w) (in_brackets s)
bracket_beside w s (inl e) = inl (ap in_brackets e)
bracket_beside w s (inr h) = inr (omega (arith, length_brackets w, length_brackets s))

join_beside : (m w s v t : List ℕ) → Beside w s → Beside v t → Beside (w ++ (m ++ v)) (s ++ (m ++ t))
join_beside m w s v t (inl e) (inl k) = inl (ap₂ (λ (x y : List ℕ). x ++ (m ++ y)) e k)
join_beside m w s v t (inl e) (inr k) =
    let n : length s ≡ length w = ap length e in
    inr (omega (arith, length-append w (m ++ v), length-append m v, length-append s (m ++ t), length-append m t))
join_beside m w s v t (inr h) (inl k) =
    let n : length t ≡ length v = ap length k in
    inr (omega (arith, length-append w (m ++ v), length-append m v, length-append s (m ++ t), length-append m t))
join_beside m w s v t (inr h) (inr k) =
    inr (omega (arith, length-append w (m ++ v), length-append m v, length-append s (m ++ t), length-append m t))

pub shortest_at : {l : ℕ} {s : List ℕ} {f : Formula} → Text l s f → Beside (written_at l f) s
shortest_at zero_text = inl refl
shortest_at one_text = inl refl
shortest_at (letter_text a h) = inl refl
shortest_at (prefixed {s} {f} op t) = cons_beside (prefix_sign op) (written_at 5 f) s (shortest_at t)
shortest_at (bracketed {s} {f} t) =
    let ih = shortest_at t in
    elim (wrapped f) [
      | inl e ↦ rw e (longer (written_at 1 f) s (in_brackets s) ih (omega (arith, length_brackets s)))
      | inr e ↦ rw e (bracket_beside (written_at 1 f) s ih)
    ]
shortest_at (joined {s} {t} {f} {g} op a b) =
    rw (written_bare (level op) op f g (omega arith)) (join_beside (infix_sign op) (written_at (left op) f) s (written_at (right op) g) t (shortest_at a) (shortest_at b))
shortest_at (tighter {l} {s} {f} low t) =
    let ih = shortest_at t in
    elim (relaxed l f) [
      | inl e ↦ rw e at ih
      | inr h ↦ elim ih [ inl k ↦ let n : length s ≡ length (written_at (suc l) f) = ap length k in inr (omega arith) | inr k ↦ inr (omega arith) ]
    ]
shortest_at (blank_before {l} {s} {f} t) = longer (written_at l f) s (32 ∷ s) (shortest_at t) (omega arith)
shortest_at (blank_after {l} {s} {f} t) = longer (written_at l f) s (s ++ (32 ∷ [])) (shortest_at t) (omega (arith, length-append s (32 ∷ [])))

pub written_reads : (s : List ℕ) (f : Formula) → Reads s f → Reads (written f) f
written_reads s f t = written_text f (text_lettered t) 1 (lit≤ tt) (lit≤ tt)

pub only_shortest : (s : List ℕ) (f : Formula) → Reads s f → (s ≡ written f) ⊎ (length (written f) < length s)
only_shortest s f t = shortest_at t
