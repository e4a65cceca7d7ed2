-- In a sound table whose locations count up from the left, the pushed parts are those of the formulas.
use Rattle.std.proofs.Common.{◌≡◌, ℕ, zero, suc, ◌+◌, ◌-◌, ◌<◌, Bool, true, false, cond, ltb, List, [], ◌∷◌, ◌++◌, length, get_or, sym, refl, ap, ◌∙◌, ap₂, arith, length-append}
use Rattle.std.proofs.lemmas.Bool.{ltb-true, both_ways}
use Rattle.formulas.specs.declared.Prefix.{Prefix}
use Rattle.formulas.specs.declared.Prefix.TheVariants.{Not, Next, Finally, Globally}
use Rattle.formulas.specs.declared.Infix.{Infix}
use Rattle.formulas.specs.declared.Infix.TheVariants.{Implies, Or, And, Until, Release}
use Rattle.formulas.specs.declared.Part.{Part as Row}
use Rattle.formulas.specs.declared.Part.TheVariants.{Constant, Letter, Unary, Binary}
use Rattle.formulas.specs.Formula.{Formula, constant, temporal_prefix, temporal_infix, operators}
use Rattle.formulas.specs.Table.{formula_over, formulas, locations_over, locations, whole_formula, whole_locations, counted_from, sound, sound_part}
use Rattle.formulas.proofs.Values.{both_true, Local, value_at, formula_at, locations_at, sound_at}
use Rattle.unfolding.specs.Pushed.{Part, under, left_of, prefix_pushed, infix_pushed, push}
use Rattle.unfolding.specs.Flat.{nothing, pushed_over, pushed_parts, pushed}

pub pushed_local : Local pushed_over nothing
pushed_local xs ys i (Constant c) s same = refl
pushed_local xs ys i (Letter a) s same = refl
pushed_local xs ys i (Unary op f l) s same =
    ap {B = Bool → Part} (λ (F : Bool → Part). λ (b : Bool). prefix_pushed op b l (F (under op b))) (same f (ltb-true f i s))
pushed_local xs ys i (Binary op f g l) s same =
    let parts = both_true (ltb f i) (ltb g i) s in
    let make : (Bool → Part) → (Bool → Part) → Bool → Part = λ F G b. infix_pushed op b l (F (left_of op b)) (G b) in
    ap₂ make (same f (ltb-true f i parts.0)) (same g (ltb-true g i parts.1))

-- a part of the table is made from its operands
pub pushed_at : (rows : List Row) (k : ℕ) (e : Row) → sound rows ≡ true → k < length rows → pushed rows k ≡ pushed_over (pushed_parts rows) (get_or rows k e)
pushed_at = value_at pushed_over nothing pushed_local

-- numbers that count up, taken apart
front_split : (xs ys : List ℕ) (k n : ℕ) → xs ++ ys ≡ counted_from k (length xs + n) → (xs ≡ counted_from k (length xs)) × (ys ≡ counted_from (k + length xs) n)
front_split [] ys k n e =
    let z : 0 + n ≡ n = omega arith in
    let z' : k ≡ k + 0 = omega arith in
    (refl, e ∙ ap₂ (λ a b. counted_from a b) z' z)
front_split (x ∷ xs) ys k n e =
    let z : suc (length xs) + n ≡ suc (length xs + n) = omega arith in
    let cons : x ∷ (xs ++ ys) ≡ k ∷ counted_from (suc k) (length xs + n) = e ∙ ap (counted_from k) z in
    let head : x ≡ k = cc in
    let tail : xs ++ ys ≡ counted_from (suc k) (length xs + n) = cc in
    let rest = front_split xs ys (suc k) n tail in
    let z' : suc k + length xs ≡ k + suc (length xs) = omega arith in
    (ap₂ (λ a b. a ∷ b) head rest.0, rest.1 ∙ ap (λ a. counted_from a n) z')

sign_split : (t : Bool) (l k m : ℕ) (xs : List ℕ) → cond t (l ∷ []) [] ++ xs ≡ counted_from k (cond t 1 0 + m) → (t ≡ true → l ≡ k) × (xs ≡ counted_from (k + cond t 1 0) m)
sign_split true l k m xs e =
    let z : 1 + m ≡ suc m = omega arith in
    let cons : l ∷ xs ≡ k ∷ counted_from (suc k) m = e ∙ ap (counted_from k) z in
    let z' : suc k ≡ k + 1 = omega arith in
    let head : l ≡ k = cc in
    let tail : xs ≡ counted_from (suc k) m = cc in
    ((λ _. head), tail ∙ ap (λ a. counted_from a m) z')
sign_split false l k m xs e =
    let z : 0 + m ≡ m = omega arith in
    let z' : k ≡ k + 0 = omega arith in
    ((λ t. absurd (both_ways false refl t)), e ∙ ap₂ (λ a b. counted_from a b) z' z)

sign_length : (t : Bool) (l : ℕ) → length (cond t (l ∷ []) []) ≡ cond t 1 0
sign_length true l = refl
sign_length false l = refl

-- the location matters to temporal operators alone
prefix_location : (op : Prefix) (b : Bool) (l k : ℕ) (F : Part) → (temporal_prefix op ≡ true → l ≡ k) → prefix_pushed op b l F ≡ prefix_pushed op b k F
prefix_location Not b l k F e = refl
prefix_location Next b l k F e = ap (λ x. prefix_pushed Next b x F) (e refl)
prefix_location Finally b l k F e = ap (λ x. prefix_pushed Finally b x F) (e refl)
prefix_location Globally b l k F e = ap (λ x. prefix_pushed Globally b x F) (e refl)

infix_location : (op : Infix) (b : Bool) (l k : ℕ) (F G : Part) → (temporal_infix op ≡ true → l ≡ k) → infix_pushed op b l F G ≡ infix_pushed op b k F G
infix_location Implies true l k F G e = refl
infix_location Implies false l k F G e = refl
infix_location Or true l k F G e = refl
infix_location Or false l k F G e = refl
infix_location And true l k F G e = refl
infix_location And false l k F G e = refl
infix_location Until b l k F G e = ap (λ x. infix_pushed Until b x F G) (e refl)
infix_location Release b l k F G e = ap (λ x. infix_pushed Release b x F G) (e refl)

module _ (rows : List Row) (h : sound rows ≡ true) where
  abbrev formula : ℕ → Formula
  formula i = get_or (formulas rows) i (constant false)

  abbrev places : ℕ → List ℕ
  places i = get_or (locations rows) i []

  abbrev row : ℕ → Row
  row i = get_or rows i (Constant false)

  -- as many locations as temporal operators
  counted : (fuel i : ℕ) → i < fuel → i < length rows → length (places i) ≡ operators (formula i)
  counted zero i l b = absurd (omega arith)
  counted (suc fuel) i l b =
      ap (λ (x : List ℕ). length x) (locations_at rows i (Constant false) h b)
      ∙ over (row i) (sound_at rows i (Constant false) h b) (λ j c. counted fuel j (omega arith) (omega arith))
      ∙ sym (ap operators (formula_at rows i (Constant false) h b))
    where
      over : (p : Row) → sound_part i p ≡ true → ((j : ℕ) → j < i → length (places j) ≡ operators (formula j)) → length (locations_over (locations rows) p) ≡ operators (formula_over (formulas rows) p)
      over (Constant c) s lower = refl
      over (Letter a) s lower = refl
      over (Unary op f place) s lower =
          let a = length-append (cond (temporal_prefix op) (place ∷ []) []) (places f) in
          let c = sign_length (temporal_prefix op) place in
          let d = lower f (ltb-true f i s) in
          omega (arith, a, c, d)
      over (Binary op f g place) s lower =
          let parts = both_true (ltb f i) (ltb g i) s in
          let a = length-append (places f) (cond (temporal_infix op) (place ∷ []) [] ++ places g) in
          let a' = length-append (cond (temporal_infix op) (place ∷ []) []) (places g) in
          let c = sign_length (temporal_infix op) place in
          let d = lower f (ltb-true f i parts.0) in
          let d' = lower g (ltb-true g i parts.1) in
          omega (arith, a, a', c, d, d')

  -- a part whose locations count up from k is its formula pushed from k
  pub pushed_formula : (fuel i : ℕ) → i < fuel → i < length rows → (k : ℕ) (b : Bool) → places i ≡ counted_from k (operators (formula i)) → pushed rows i b ≡ push b (formula i) k
  pushed_formula zero i l c k b e = absurd (omega arith)
  pushed_formula (suc fuel) i l c k b e =
      ap (λ (F : Bool → Part). F b) (pushed_at rows i (Constant false) h c)
      ∙ over (row i) (sound_at rows i (Constant false) h c) (λ j m. pushed_formula fuel j (omega arith) (omega arith))
      (sym (locations_at rows i (Constant false) h c) ∙ e ∙ ap (λ (x : Formula). counted_from k (operators x)) (formula_at rows i (Constant false) h c))
      ∙ sym (ap (λ (x : Formula). push b x k) (formula_at rows i (Constant false) h c))
    where
      over : (p : Row) → sound_part i p ≡ true → ((j : ℕ) → j < i → (m : ℕ) (s : Bool) → places j ≡ counted_from m (operators (formula j)) → pushed rows j s ≡ push s (formula j) m)
          → locations_over (locations rows) p ≡ counted_from k (operators (formula_over (formulas rows) p)) → pushed_over (pushed_parts rows) p b ≡ push b (formula_over (formulas rows) p) k
      over (Constant x) s lower q = refl
      over (Letter a) s lower q = refl
      over (Unary op f place) s lower q =
          let t = sign_split (temporal_prefix op) place k (operators (formula f)) (places f) q in
          prefix_location op b place k (pushed rows f (under op b)) t.0
          ∙ ap (prefix_pushed op b k) (lower f (ltb-true f i s) (k + cond (temporal_prefix op) 1 0) (under op b) t.1)
      over (Binary op f g place) s lower q =
          let parts = both_true (ltb f i) (ltb g i) s in
          let lf = ltb-true f i parts.0 in
          let lg = ltb-true g i parts.1 in
          let n : length (places f) ≡ operators (formula f) = counted (suc f) f (omega arith) (omega arith) in
          let t = front_split (places f) (cond (temporal_infix op) (place ∷ []) [] ++ places g) k (cond (temporal_infix op) 1 0 + operators (formula g))
          (q ∙ ap (λ m. counted_from k (m + (cond (temporal_infix op) 1 0 + operators (formula g)))) (sym n)) in
          let r = sign_split (temporal_infix op) place (k + length (places f)) (operators (formula g)) (places g) t.1 in
          infix_location op b place (k + operators (formula f)) (pushed rows f (left_of op b)) (pushed rows g b) (λ x. r.0 x ∙ ap (λ m. k + m) n)
          ∙ ap₂ (λ (F G : Part). infix_pushed op b (k + operators (formula f)) F G)
          (lower f lf k (left_of op b) (t.0 ∙ ap (counted_from k) n))
          (lower g lg (k + operators (formula f) + cond (temporal_infix op) 1 0) b (r.1 ∙ ap (λ m. counted_from (k + m + cond (temporal_infix op) 1 0) (operators (formula g))) n))

  -- the whole rule, of either sign
  pub pushed_whole : 0 < length rows → whole_locations rows ≡ counted_from 1 (operators (whole_formula rows)) → (b : Bool) → pushed rows (length rows - 1) b ≡ push b (whole_formula rows) 1
  pushed_whole some numbered b = pushed_formula (length rows) (length rows - 1) (omega arith) (omega arith) 1 b numbered
