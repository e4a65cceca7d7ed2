-- Which signs are temporal operators.
use Rattle.std.proofs.Common.{◌≡◌, ℕ, ◌+◌, ◌<◌, Bool, false, cond, eqb, List, [], ◌∷◌, ◌++◌, length, get_or, take, sym, refl, ap, ◌∙◌, inl, inr, zero-add, arith}
use Rattle.std.proofs.lemmas.List.{take_more}
use Rattle.std.proofs.lemmas.Bool.{cases_Bool, eqb-true, eqb-false}
use Rattle.formulas.specs.declared.Prefix.TheVariants.{Not, Next, Finally, Globally}
use Rattle.formulas.specs.declared.Infix.TheVariants.{Implies, Or, And, Until, Release}
use Rattle.formulas.specs.declared.Sign.{Sign}
use Rattle.formulas.specs.declared.Sign.TheVariants.{Blank, Open, Close, Dash, Head, Constant, Letter, Before, Between, Unknown}
use Rattle.formulas.specs.Formula.{temporal_prefix, temporal_infix}
use Rattle.formulas.specs.Sign.{sign}
use Rattle.formulas.specs.Grammar.{temporal_sign, temporals}
use Rattle.formulas.proofs.Sound.{Spelt, spelt}

abbrev pub temporal_of : Sign → Bool
temporal_of Blank = false
temporal_of Open = false
temporal_of Close = false
temporal_of Dash = false
temporal_of Head = false
temporal_of (Constant b) = false
temporal_of (Letter a) = false
temporal_of (Before op) = temporal_prefix op
temporal_of (Between op) = temporal_infix op
temporal_of Unknown = false

first : (a b : ℕ) (s t : List ℕ) → (a ∷ s) ≡ (b ∷ t) → a ≡ b
first a b s t e = cc

-- none of the five bytes
record Other (b : ℕ) : Type 0 where
  x : b ≡ 88 → ⊥
  f : b ≡ 70 → ⊥
  g : b ≡ 71 → ⊥
  u : b ≡ 85 → ⊥
  r : b ≡ 82 → ⊥

other_sign : (b : ℕ) → Other b → (s : Sign) → Spelt s b → temporal_of s ≡ false
other_sign b o Blank e = refl
other_sign b o Open e = refl
other_sign b o Close e = refl
other_sign b o Dash e = refl
other_sign b o Head e = refl
other_sign b o (Constant c) e = refl
other_sign b o (Letter a) e = refl
other_sign b o (Before Not) e = refl
other_sign b o (Before Next) e = absurd (o.x e)
other_sign b o (Before Finally) e = absurd (o.f e)
other_sign b o (Before Globally) e = absurd (o.g e)
other_sign b o (Between Implies) e = refl
other_sign b o (Between Or) e = refl
other_sign b o (Between And) e = refl
other_sign b o (Between Until) e = absurd (o.u (sym (first 85 b [] [] e)))
other_sign b o (Between Release) e = absurd (o.r (sym (first 82 b [] [] e)))
other_sign b o Unknown e = refl

pub temporal_sign_of : (b : ℕ) → temporal_sign b ≡ temporal_of (sign b)
temporal_sign_of b =
    elim (cases_Bool (eqb b 88)) [
      | inl e ↦ let k = eqb-true b 88 e in rw k
      | inr x ↦ elim (cases_Bool (eqb b 70)) [
        | inl e ↦ let k = eqb-true b 70 e in rw k
        | inr f ↦ elim (cases_Bool (eqb b 71)) [
          | inl e ↦ let k = eqb-true b 71 e in rw k
          | inr g ↦ elim (cases_Bool (eqb b 85)) [
            | inl e ↦ let k = eqb-true b 85 e in rw k
            | inr u ↦ elim (cases_Bool (eqb b 82)) [
              | inl e ↦ let k = eqb-true b 82 e in rw k
              | inr r ↦
                  let o : Other b = record { x = eqb-false b 88 x; f = eqb-false b 70 f; g = eqb-false b 71 g; u = eqb-false b 85 u; r = eqb-false b 82 r } in
                  let z : temporal_of (sign b) ≡ false = other_sign b o (sign b) (spelt b) in
                  let y : temporal_sign b ≡ false = rw (x, f, g, u, r) in
                  y ∙ sym z
            ]
          ]
        ]
      ]
    ]

pub temporals_append : (s t : List ℕ) → temporals (s ++ t) ≡ temporals s + temporals t
temporals_append [] t = sym (zero-add (temporals t))
temporals_append (b ∷ s) t = let e = temporals_append s t in omega (arith, e)

-- one byte more
pub temporals_more : (text : List ℕ) (i : ℕ) (d : ℕ) → i < length text → temporals (take (i + 1) text) ≡ temporals (take i text) + cond (temporal_of (sign (get_or text i d))) 1 0
temporals_more text i d h =
    let e = take_more text i d h in
    let a = temporals_append (take i text) (get_or text i d ∷ []) in
    let t = temporal_sign_of (get_or text i d) in
    let n : temporals (get_or text i d ∷ []) ≡ cond (temporal_of (sign (get_or text i d))) 1 0 = rw t (omega arith) in
    ap temporals e ∙ a ∙ ap (λ (k : ℕ). temporals (take i text) + k) n
