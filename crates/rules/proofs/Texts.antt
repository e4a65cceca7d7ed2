-- The text of a part, from the texts of its operands.
use Rattle.std.proofs.Common.{◌≡◌, ℕ, ◌+◌, ◌<◌, Bool, true, false, cond, ltb, List, [], ◌∷◌, ◌++◌, length, get_or, refl, sym, ap, ◌∙◌, append_assoc, arith, length-append}
use Rattle.std.proofs.lemmas.List.{append-nil}
use Rattle.std.proofs.lemmas.Bool.{ltb-true}
use Rattle.formulas.specs.declared.Infix.{Infix}
use Rattle.formulas.specs.declared.Prefix.{Prefix}
use Rattle.formulas.specs.declared.Part.{Part}
use Rattle.formulas.specs.declared.Part.TheVariants.{Constant, Letter, Unary, Binary}
use Rattle.formulas.specs.Formula.{constant}
use Rattle.formulas.specs.Grammar.{level, left, right}
use Rattle.formulas.specs.Sign.{prefix_sign, infix_sign}
use Rattle.formulas.specs.Table.{formulas, formula_over, sound, sound_part}
use Rattle.formulas.specs.Written.{written_at, in_brackets}
use Rattle.formulas.proofs.Values.{both_true, formula_at, sound_at}
use Rattle.rules.specs.declared.rule.Rule.{Rule}
use Rattle.rules.specs.Rules.{table, part_text, bracket_if}

module _ (ps : List Part) (i : ℕ) (h : sound ps ≡ true) (lt : i < length ps) where
  fit : (p : Part) → get_or ps i (Constant false) ≡ p → sound_part i p ≡ true
  fit p e = rw e at (sound_at ps i (Constant false) h lt)

  pub letter_small : (a : ℕ) → get_or ps i (Constant false) ≡ Letter a → a < 16
  letter_small a e = ltb-true a 16 (fit (Letter a) e)

  pub unary_below : (op : Prefix) (f location : ℕ) → get_or ps i (Constant false) ≡ Unary op f location → f < i
  unary_below op f location e = ltb-true f i (fit (Unary op f location) e)

  pub binary_below : (op : Infix) (f g location : ℕ) → get_or ps i (Constant false) ≡ Binary op f g location → (f < i) × (g < i)
  binary_below op f g location e =
      let b = both_true (ltb f i) (ltb g i) (fit (Binary op f g location) e) in
      (ltb-true f i b.0, ltb-true g i b.1)

  text_over : (l : ℕ) (p : Part) → get_or ps i (Constant false) ≡ p → part_text ps i l ≡ written_at l (formula_over (formulas ps) p)
  text_over l p e = ap (written_at l) (formula_at ps i (Constant false) h lt ∙ ap (formula_over (formulas ps)) e)

-- a part of a rule, and its text as an operand of level l
module _ (r : Rule) (i l : ℕ) (lt : i < length (table r)) (rows : List Part) (same : rows ≡ table r) where
  abbrev text : ℕ → ℕ → List ℕ
  text k m = part_text (table r) k m

  pub constant_text : (b : Bool) → get_or rows i (Constant false) ≡ Constant b → text i l ≡ cond b 49 48 ∷ []
  constant_text b e = text_over (table r) i r.formed.operands lt l (Constant b) (rw same at e) ∙ digit b
    where
      digit : (c : Bool) → written_at l (constant c) ≡ cond c 49 48 ∷ []
      digit true = refl
      digit false = refl

  pub letter_text : (a : ℕ) → get_or rows i (Constant false) ≡ Letter a → (a < 16) × (text i l ≡ (97 + a) ∷ [])
  letter_text a e = (letter_small (table r) i r.formed.operands lt a (rw same at e), text_over (table r) i r.formed.operands lt l (Letter a) (rw same at e))

  pub unary_text : (op : Prefix) (f location : ℕ) → get_or rows i (Constant false) ≡ Unary op f location → (f < i) × (text i l ≡ prefix_sign op ∷ text f 5)
  unary_text op f location e =
      (unary_below (table r) i r.formed.operands lt op f location (rw same at e), text_over (table r) i r.formed.operands lt l (Unary op f location) (rw same at e))

  -- an infix operator with its operands, whose levels are as the code has them
  pub binary_text : (op : Infix) (f g location n lv rv : ℕ) → get_or rows i (Constant false) ≡ Binary op f g location → n ≡ level op → lv ≡ left op → rv ≡ right op
      → ((f < i) × (g < i)) × (text i l ≡ bracket_if (ltb n l) 40 ++ (text f lv ++ (infix_sign op ++ (text g rv ++ bracket_if (ltb n l) 41))))
  binary_text op f g location n lv rv e en el er = (
    binary_below (table r) i r.formed.operands lt op f g location (rw same at e),
    rw (en, el, er) (text_over (table r) i r.formed.operands lt l (Binary op f g location) (rw same at e) ∙ go (ltb (level op) l)),
  )
    where
      a : List ℕ
      a = text f (left op)

      b : List ℕ
      b = text g (right op)

      m : List ℕ
      m = infix_sign op

      go : (w : Bool) → cond w (in_brackets (a ++ (m ++ b))) (a ++ (m ++ b)) ≡ bracket_if w 40 ++ (a ++ (m ++ (b ++ bracket_if w 41)))
      go true = ap (λ (x : List ℕ). 40 ∷ x) (append_assoc a (m ++ b) (41 ∷ []) ∙ ap (λ (x : List ℕ). a ++ x) (append_assoc m b (41 ∷ [])))
      go false = ap (λ (x : List ℕ). a ++ (m ++ x)) (sym (append-nil b))

  pub binary_length : (op : Infix) (f g location n lv rv : ℕ) → get_or rows i (Constant false) ≡ Binary op f g location → n ≡ level op → lv ≡ left op → rv ≡ right op
      → length (text i l) ≡ length (bracket_if (ltb n l) 40) + (length (text f lv) + (length (infix_sign op) + (length (text g rv) + length (bracket_if (ltb n l) 41))))
  binary_length op f g location n lv rv e en el er =
      let a = bracket_if (ltb n l) 40 in
      let z = bracket_if (ltb n l) 41 in
      let m = infix_sign op in
      ap length (binary_text op f g location n lv rv e en el er).1
      ∙ omega (arith, length-append a (text f lv ++ (m ++ (text g rv ++ z))), length-append (text f lv) (m ++ (text g rv ++ z)), length-append m (text g rv ++ z), length-append (text g rv) z)

-- a byte and a text appended, one after the other
pub two_appended : (s t u : List ℕ) (x y : ℕ) (a w : List ℕ) → t ≡ s ++ (x ∷ []) → u ≡ t ++ a → x ≡ y → w ≡ y ∷ a → u ≡ s ++ w
two_appended s t u x y a w e1 e2 e z = rw (e2, e1, e, z) (append_assoc s (y ∷ []) a)

-- five texts appended, one after another
pub five_appended : (s t u v x y a b c d e w : List ℕ) → t ≡ s ++ a → u ≡ t ++ b → v ≡ u ++ c → x ≡ v ++ d → y ≡ x ++ e → w ≡ a ++ (b ++ (c ++ (d ++ e))) → y ≡ s ++ w
five_appended s t u v x y a b c d e w e1 e2 e3 e4 e5 z =
    rw (e5, e4, e3, e2, e1, z)
    (append_assoc (((s ++ a) ++ b) ++ c) d e ∙ append_assoc ((s ++ a) ++ b) c (d ++ e) ∙ append_assoc (s ++ a) b (c ++ (d ++ e)) ∙ append_assoc s a (b ++ (c ++ (d ++ e))))
