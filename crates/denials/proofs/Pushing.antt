-- A signed part of a sound table is pushed as its row says.
use Rattle.std.proofs.Common.{◌≡◌, ℕ, ◌<◌, Bool, true, false, cond, not, List, length, get_or, sym, refl, ap, ◌∙◌, ◌⊎◌, inl, inr, eqb}
use mathlib.Core.Bool.{beq}
use Rattle.formulas.specs.declared.Infix.{Infix}
use Rattle.formulas.specs.declared.Prefix.{Prefix}
use Rattle.formulas.specs.declared.Part.{Part as Row}
use Rattle.formulas.specs.declared.Part.TheVariants.{Constant, Letter, Unary, Binary}
use Rattle.rules.specs.declared.rule.Rule.{Rule}
use Rattle.rules.specs.Rules.{table}
use Rattle.rules.proofs.Texts.{letter_small, unary_below, binary_below}
use Rattle.unfolding.specs.Pushed.{Part, fixed, under, left_of, prefix_pushed, infix_pushed}
use Rattle.unfolding.specs.Smallest.{mentions}
use Rattle.unfolding.specs.Flat.{pushed, pushed_over, pushed_parts}
use Rattle.unfolding.proofs.Flat.{pushed_at}
use Rattle.denials.specs.declared.signed.Signed.{Signed}
use Rattle.denials.specs.declared.signed.Pushed.{Pushed}
use Rattle.denials.specs.declared.signed.Pushed.TheVariants.{Fixed, Literal, Both, Either, Finally, Globally, Until, Release}
use Rattle.denials.proofs.Shifts.{union_two, union_three}
use Rattle.components.specs.Bits.{has}
use Rattle.components.proofs.Bits.{has_none}
use lib.Bits.{bit_or}
use Rattle.denials.specs.Signs.{part_of, stands_for, Below, Pushes}

same_sign : (c b : Bool) → cond b c (not c) ≡ beq c b
same_sign true true = refl
same_sign true false = refl
same_sign false true = refl
same_sign false false = refl

module _ (rule : Rule) (part : Signed) (lt : part.index < length (table rule)) (rows : List Row) (same : rows ≡ table rule) where
  over : (p : Row) → get_or rows part.index (Constant false) ≡ p → part_of (table rule) part ≡ pushed_over (pushed_parts (table rule)) p part.sign
  over p e =
      ap (λ (F : Bool → Part). F part.sign) (pushed_at (table rule) part.index (Constant false) rule.formed.operands lt)
      ∙ ap (λ (x : Row). pushed_over (pushed_parts (table rule)) x part.sign) (rw same at e)

  pub constant_pushed : (c : Bool) → get_or rows part.index (Constant false) ≡ Constant c → Pushes (table rule) part (Fixed (beq c part.sign))
  constant_pushed c e = record { is = over (Constant c) e ∙ ap fixed (same_sign c part.sign); below = tt }

  pub letter_pushed : (a : ℕ) → get_or rows part.index (Constant false) ≡ Letter a → Pushes (table rule) part (Literal part.sign a)
  letter_pushed a e = record { is = over (Letter a) e; below = letter_small (table rule) part.index rule.formed.operands lt a (rw same at e) }

  pub unary_pushed : (op : Prefix) (f location : ℕ) (r : Pushed) → get_or rows part.index (Constant false) ≡ Unary op f location
      → prefix_pushed op part.sign location (pushed (table rule) f (under op part.sign)) ≡ stands_for (table rule) r
      → ((n : ℕ) → f < n → Below n r) → Pushes (table rule) part r
  unary_pushed op f location r e is below =
      record { is = over (Unary op f location) e ∙ is; below = below part.index (unary_below (table rule) part.index rule.formed.operands lt op f location (rw same at e)) }

  pub binary_pushed : (op : Infix) (f g location : ℕ) (r : Pushed) → get_or rows part.index (Constant false) ≡ Binary op f g location
      → infix_pushed op part.sign location (pushed (table rule) f (left_of op part.sign)) (pushed (table rule) g part.sign) ≡ stands_for (table rule) r
      → ((n : ℕ) → f < n → g < n → Below n r) → Pushes (table rule) part r
  binary_pushed op f g location r e is below =
      let b = binary_below (table rule) part.index rule.formed.operands lt op f g location (rw same at e) in
      record { is = over (Binary op f g location) e ∙ is; below = below part.index b.0 b.1 }

-- the locations that a part looks for, one level down
pub looks : {rows : List Row} {part : Signed} {r : Pushed} (l : ℕ) → Pushes rows part r → mentions (stands_for rows r) l ≡ mentions (part_of rows part) l
looks l p = sym (ap (λ (x : Part). mentions x l) p.is)

-- the sets of what is looked for, by what a part is pushed to
module _ {rows : List Row} {part : Signed} {r : Pushed} (l : ℕ) where
  pub none_looked : Pushes rows part r → ((b : Bool) × (r ≡ Fixed b)) ⊎ ((b : Bool) × (a : ℕ) × (r ≡ Literal b a)) → has 0 l ≡ mentions (part_of rows part) l
  none_looked p (inl (b, e)) = has_none l ∙ sym (ap (λ (x : Pushed). mentions (stands_for rows x) l) e) ∙ looks l p
  none_looked p (inr (b, a, e)) = has_none l ∙ sym (ap (λ (x : Pushed). mentions (stands_for rows x) l) e) ∙ looks l p

  pub operands_looked : (f g : Signed) (m n : ℕ) → Pushes rows part r → (r ≡ Both f g) ⊎ (r ≡ Either f g)
      → has m l ≡ mentions (part_of rows f) l → has n l ≡ mentions (part_of rows g) l → has (bit_or m n) l ≡ mentions (part_of rows part) l
  operands_looked f g m n p (inl e) x y = union_two m n l _ _ x y ∙ sym (ap (λ (z : Pushed). mentions (stands_for rows z) l) e) ∙ looks l p
  operands_looked f g m n p (inr e) x y = union_two m n l _ _ x y ∙ sym (ap (λ (z : Pushed). mentions (stands_for rows z) l) e) ∙ looks l p

  pub operand_looked : (k : ℕ) (f : Signed) (m n : ℕ) → Pushes rows part r → (r ≡ Finally k f) ⊎ (r ≡ Globally k f)
      → has m l ≡ mentions (part_of rows f) l → has n l ≡ eqb l k → has (bit_or m n) l ≡ mentions (part_of rows part) l
  operand_looked k f m n p (inl e) x y = union_two m n l _ _ x y ∙ sym (ap (λ (z : Pushed). mentions (stands_for rows z) l) e) ∙ looks l p
  operand_looked k f m n p (inr e) x y = union_two m n l _ _ x y ∙ sym (ap (λ (z : Pushed). mentions (stands_for rows z) l) e) ∙ looks l p

  pub all_looked : (k : ℕ) (f g : Signed) (m n o : ℕ) → Pushes rows part r → (r ≡ Until k f g) ⊎ (r ≡ Release k f g)
      → has m l ≡ mentions (part_of rows f) l → has n l ≡ mentions (part_of rows g) l → has o l ≡ eqb l k → has (bit_or (bit_or m n) o) l ≡ mentions (part_of rows part) l
  all_looked k f g m n o p (inl e) x y z = union_three m n o l _ _ _ x y z ∙ sym (ap (λ (v : Pushed). mentions (stands_for rows v) l) e) ∙ looks l p
  all_looked k f g m n o p (inr e) x y z = union_three m n o l _ _ _ x y z ∙ sym (ap (λ (v : Pushed). mentions (stands_for rows v) l) e) ∙ looks l p
