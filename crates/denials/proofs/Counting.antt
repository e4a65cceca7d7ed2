-- Temporal operators, counted over a sound table.
use Rattle.std.proofs.Common.{◌≡◌, ℕ, ◌+◌, ◌<◌, Bool, true, false, cond, List, length, get_or, sym, ap, ◌∙◌, ◌⊎◌, inl, inr, arith}
use mir.Val.{bool_byte}
use Rattle.formulas.specs.declared.Infix.{Infix}
use Rattle.formulas.specs.declared.Prefix.{Prefix}
use Rattle.formulas.specs.declared.Part.{Part as Row}
use Rattle.formulas.specs.declared.Part.TheVariants.{Constant, Letter, Unary, Binary}
use Rattle.formulas.specs.Formula.{constant, operators, temporal_prefix, temporal_infix}
use Rattle.formulas.specs.Table.{formulas, formula_over}
use Rattle.formulas.proofs.Values.{formula_at}
use Rattle.rules.specs.declared.rule.Rule.{Rule}
use Rattle.rules.specs.Rules.{table}
use Rattle.rules.proofs.Texts.{unary_below, binary_below}

byte_cond : (b t : Bool) → b ≡ t → bool_byte b ≡ cond t 1 0
byte_cond true t e = ap (λ (x : Bool). cond x 1 0) e
byte_cond false t e = ap (λ (x : Bool). cond x 1 0) e

-- how many temporal operators part i of a rule has
abbrev pub operators_at : Rule → ℕ → ℕ
operators_at rule i = operators (get_or (formulas (table rule)) i (constant false))

module _ (rule : Rule) (i : ℕ) (lt : i < length (table rule)) (rows : List Row) (same : rows ≡ table rule) where
  over : (p : Row) → get_or rows i (Constant false) ≡ p → operators_at rule i ≡ operators (formula_over (formulas (table rule)) p)
  over p e = ap operators (formula_at (table rule) i (Constant false) rule.formed.operands lt ∙ ap (formula_over (formulas (table rule))) (rw same at e))

  pub none_counted : ((c : Bool) × (get_or rows i (Constant false) ≡ Constant c)) ⊎ ((a : ℕ) × (get_or rows i (Constant false) ≡ Letter a)) → 0 ≡ operators_at rule i
  none_counted (inl (c, e)) = sym (over (Constant c) e)
  none_counted (inr (a, e)) = sym (over (Letter a) e)

  -- a prefix operator: its operand stands below it, and has as many less itself
  pub unary_counted : (op : Prefix) (f location : ℕ) (b : Bool) → get_or rows i (Constant false) ≡ Unary op f location → b ≡ temporal_prefix op
      → (f < i) × (bool_byte b + operators_at rule f ≡ operators_at rule i)
  unary_counted op f location b e t = (
    unary_below (table rule) i rule.formed.operands lt op f location (rw same at e),
    ap (λ x. x + operators_at rule f) (byte_cond b (temporal_prefix op) t) ∙ sym (over (Unary op f location) e),
  )

  -- an infix operator
  pub binary_counted : (op : Infix) (f g location : ℕ) (b : Bool) → get_or rows i (Constant false) ≡ Binary op f g location → b ≡ temporal_infix op
      → ((f < i) × (g < i)) × (operators_at rule f + bool_byte b + operators_at rule g ≡ operators_at rule i)
  binary_counted op f g location b e t =
      let z : bool_byte b ≡ cond (temporal_infix op) 1 0 = byte_cond b (temporal_infix op) t in
      let s : operators_at rule i ≡ operators_at rule f + (cond (temporal_infix op) 1 0 + operators_at rule g) = over (Binary op f g location) e in
      (binary_below (table rule) i rule.formed.operands lt op f g location (rw same at e), omega arith)
