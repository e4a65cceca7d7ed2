-- Sought by its number, a location's own part is found.
use Rattle.std.proofs.Common.{◌≡◌, ℕ, suc, ◌+◌, ◌<◌, ◌≤◌, Bool, true, false, cond, eqb, ◌∷◌, length, Some, None, Option, sym, refl, ap, ◌∙◌, arith, length-append}
use native.Mathlib.Decide.{dec_lt, ℕ_discrete}
use Rattle.std.proofs.lemmas.Bool.{eq-eqb, ne_eqb, cond-true, cond-false, eqb-true}
use Rattle.formulas.specs.Formula.{Formula}
use Rattle.unfolding.specs.Pushed.{Part, fixed, literal, both, either, next, finally, globally, until, release, temporals, denial, locations, own}
use Rattle.unfolding.specs.Flat.{first_of, seek}
use Rattle.unfolding.proofs.Numbers.{Numbered, numbered, count, Located, Known, denial_known}

-- what is found is the location's own part
abbrev Owns : Formula → ℕ → Option Part → Type 0
Owns r k o = (q : Part) → o ≡ Some q → own (temporals (denial r)) k ≡ q

owns_none : (r : Formula) (k : ℕ) → Owns r k None
owns_none r k q e = let z : ◌≡◌ {A = ℕ} 0 1 = cc in absurd (omega arith)

owns_first : (r : Formula) (k : ℕ) (x y : Option Part) → Owns r k x → Owns r k y → Owns r k (first_of x y)
owns_first r k (Some p) y a b = a
owns_first r k None y a b = b

owns_here : (r : Formula) (k l : ℕ) (p : Part) (other : Option Part) → Located r l p → Owns r k other → (t : Bool) → eqb k l ≡ t → Owns r k (cond t (Some p) other)
owns_here r k l p other at rest true e q f = let z : p ≡ q = cc in ap (own (temporals (denial r))) (eqb-true k l e) ∙ at.is ∙ z
owns_here r k l p other at rest false e q f = rest q f

owns : (r : Formula) (k : ℕ) (p : Part) → Known r p → Owns r k (seek p k)
owns r k (fixed b) h = owns_none r k
owns r k (literal b a) h = owns_none r k
owns r k (both f g) h = owns_first r k (seek f k) (seek g k) (owns r k f h.0) (owns r k g h.1)
owns r k (either f g) h = owns_first r k (seek f k) (seek g k) (owns r k f h.0) (owns r k g h.1)
owns r k (next l f) h = owns_here r k l (next l f) (seek f k) h.0 (owns r k f h.1) (eqb k l) refl
owns r k (finally l f) h = owns_here r k l (finally l f) (seek f k) h.0 (owns r k f h.1) (eqb k l) refl
owns r k (globally l f) h = owns_here r k l (globally l f) (seek f k) h.0 (owns r k f h.1) (eqb k l) refl
owns r k (until l f g) h =
    owns_here r k l (until l f g) (first_of (seek f k) (seek g k)) h.0 (owns_first r k (seek f k) (seek g k) (owns r k f h.1) (owns r k g h.2)) (eqb k l) refl
owns r k (release l f g) h =
    owns_here r k l (release l f g) (first_of (seek f k) (seek g k)) h.0 (owns_first r k (seek f k) (seek g k) (owns r k f h.1) (owns r k g h.2)) (eqb k l) refl

-- something is found
abbrev Found : Option Part → Type 0
Found o = (q : Part) × (o ≡ Some q)

found_first : (x y : Option Part) → Found x → Found (first_of x y)
found_first (Some p) y f = (p, refl)
found_first None y f = let z : ◌≡◌ {A = ℕ} 0 1 = let e = f.1 in cc in absurd (omega arith)

found_other : (x y : Option Part) → Found y → Found (first_of x y)
found_other (Some p) y f = (p, refl)
found_other None y f = f

found_here : (k l : ℕ) (p : Part) (other : Option Part) → ((k ≡ l → ⊥) → Found other) → Found (cond (eqb k l) (Some p) other)
found_here k l p other rest =
    elim (ℕ_discrete k l) [
      | yes e ↦ (p, cond-true _ _ _ (eq-eqb k l e))
      | no e ↦ let f = rest e in (f.0, cond-false _ _ _ (ne_eqb k l e) ∙ f.1)
    ]

-- in the parts of a pair, behind a prefix sign, and on either side of an infix sign
pair_found : (k₀ k m n : ℕ) (x y : Option Part) → k₀ ≤ k → k < k₀ + (m + n) → (k < k₀ + m → Found x) → (k₀ + m ≤ k → k < k₀ + m + n → Found y) → Found (first_of x y)
pair_found k₀ k m n x y a b left right =
    elim (dec_lt k (k₀ + m)) [
      | yes l ↦ found_first x y (left l)
      | no l ↦ found_other x y (right (omega arith) (omega arith))
    ]

prefix_found : (k₀ k l n : ℕ) (p : Part) (x : Option Part) → l ≡ k₀ → k₀ ≤ k → k < k₀ + suc n → (k₀ + 1 ≤ k → k < k₀ + 1 + n → Found x) → Found (cond (eqb k l) (Some p) x)
prefix_found k₀ k l n p x e a b rest = found_here k l p x (λ other. rest (omega arith) (omega arith))

infix_found : (k₀ k l m n : ℕ) (p : Part) (x y : Option Part) → l ≡ k₀ + m → k₀ ≤ k → k < k₀ + (m + suc n) → (k < k₀ + m → Found x) → (k₀ + m + 1 ≤ k → k < k₀ + m + 1 + n → Found y)
    → Found (cond (eqb k l) (Some p) (first_of x y))
infix_found k₀ k l m n p x y e a b left right =
    found_here k l p (first_of x y)
    (λ other.
    elim (dec_lt k (k₀ + m)) [
      | yes c ↦ found_first x y (left c)
      | no c ↦ found_other x y (right (omega arith) (omega arith))
    ])

found : (p : Part) (k₀ k : ℕ) → Numbered p k₀ → k₀ ≤ k → k < k₀ + length (temporals p) → Found (seek p k)
found (fixed b) k₀ k h a z = absurd (omega arith)
found (literal b x) k₀ k h a z = absurd (omega arith)
found (both f g) k₀ k h a z =
    let n = length-append (temporals f) (temporals g) in
    pair_found k₀ k (length (temporals f)) (length (temporals g)) (seek f k) (seek g k) a (omega arith) (found f k₀ k h.0 a) (found g (k₀ + length (temporals f)) k h.1)
found (either f g) k₀ k h a z =
    let n = length-append (temporals f) (temporals g) in
    pair_found k₀ k (length (temporals f)) (length (temporals g)) (seek f k) (seek g k) a (omega arith) (found f k₀ k h.0 a) (found g (k₀ + length (temporals f)) k h.1)
found (next l f) k₀ k h a z = prefix_found k₀ k l (length (temporals f)) (next l f) (seek f k) h.0 a z (found f (k₀ + 1) k h.1)
found (finally l f) k₀ k h a z = prefix_found k₀ k l (length (temporals f)) (finally l f) (seek f k) h.0 a z (found f (k₀ + 1) k h.1)
found (globally l f) k₀ k h a z = prefix_found k₀ k l (length (temporals f)) (globally l f) (seek f k) h.0 a z (found f (k₀ + 1) k h.1)
found (until l f g) k₀ k h a z =
    let n = length-append (temporals f) (until l f g ∷ temporals g) in
    infix_found k₀ k l (length (temporals f)) (length (temporals g)) (until l f g) (seek f k) (seek g k) h.0 a (omega arith) (found f k₀ k h.1 a)
    (found g (k₀ + length (temporals f) + 1) k h.2)
found (release l f g) k₀ k h a z =
    let n = length-append (temporals f) (release l f g ∷ temporals g) in
    infix_found k₀ k l (length (temporals f)) (length (temporals g)) (release l f g) (seek f k) (seek g k) h.0 a (omega arith) (found f k₀ k h.1 a)
    (found g (k₀ + length (temporals f) + 1) k h.2)

-- every location of the rule, but 0, is found in the negated rule
pub seek_own : (f : Formula) (k : ℕ) → 0 < k → k < locations f → seek (denial f) k ≡ Some (own (temporals (denial f)) k)
seek_own f k a b =
    let n = count f false 1 in
    let x = found (denial f) 1 k (numbered f false 1) a (omega arith) in
    x.1 ∙ ap Some (sym (owns f k (denial f) (denial_known f) x.0 x.1))
