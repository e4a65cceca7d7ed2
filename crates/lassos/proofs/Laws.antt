-- The law of lassos: the rules of positions agree with linear temporal logic on the endless word.
use Rattle.std.proofs.Common.{◌≡◌, ℕ, zero, suc, ◌+◌, ◌-◌, ◌<◌, ◌≤◌, Bool, true, false, cond, not, ◌&&◌, ◌||◌, ltb, ◌⊎◌, List, length, get_or, Some, None, Decides, Option, unwrap_or, sym, refl, ap, ◌∙◌, subst, inl, inr, arith}
use native.Mathlib.Decide.{dec_lt}
use Rattle.std.specs.List.{slice_get}
use Rattle.std.proofs.lemmas.Bool.{lt-ltb, both_ways}
use Rattle.std.proofs.lemmas.Option.{slice_get-get_or}
use Rattle.std.proofs.lemmas.Bool.Decides.{Decides-at, Decides-like, Decides-not, Decides-and, Decides-or, Decides-below_and, Decides-below_or}
use Rattle.formulas.specs.declared.Prefix.{Prefix}
use Rattle.formulas.specs.declared.Prefix.TheVariants.{Not, Next, Finally, Globally}
use Rattle.formulas.specs.declared.Infix.{Infix}
use Rattle.formulas.specs.declared.Infix.TheVariants.{Implies, Or, And, Until, Release}
use Rattle.formulas.specs.Formula.{Formula, constant, letter, unary, binary}
use Rattle.lassos.specs.Lasso.{later, place}
use Rattle.lassos.specs.Truth.{some, every, prefixed, infixed, truth}
use Rattle.lassos.specs.Word.{Prefixed, Infixed, Holds, spelled, PositionLaw}
use Rattle.lassos.proofs.Places.{Met, met, place_below, place_lt, place_next, place_later}

-- the bounded quantifiers
pub decides_some : (p : ℕ → Bool) (P : ℕ → Type 0) → ((k : ℕ) → Decides (p k) (P k)) → (n : ℕ) → Decides (some n p) ((k : ℕ) × (k < n) × P k)
decides_some p P each n = Decides-below_or p P (λ m. some m p) each refl (λ _. refl) n

pub decides_every : (p : ℕ → Bool) (P : ℕ → Type 0) → ((k : ℕ) → Decides (p k) (P k)) → (n : ℕ) → Decides (every n p) ((k : ℕ) → k < n → P k)
decides_every p P each n = Decides-below_and p P (λ m. every m p) each refl (λ _. refl) n

decides_implies : {P Q : Type 0} (a b : Bool) → Decides a P → Decides b Q → Decides (not a || b) (P → Q)
decides_implies true b p q = ((λ e _. q.0 e), (λ f. q.1 (f (p.0 refl))))
decides_implies false b p q = ((λ _ x. absurd (both_ways false refl (p.1 x))), (λ _. refl))

-- "for every k below n: g at k, or f before k" is "g at every k below n, or f at some k and g up to it"
released : (F G : ℕ → Type 0) (n : ℕ) → ((k : ℕ) → k < n → G k ⊎ ((j : ℕ) × (j < k) × F j)) → ((k : ℕ) → k < n → G k) ⊎ ((k : ℕ) × (k < n) × F k × ((j : ℕ) → j ≤ k → G j))
released F G zero h = inl (λ k l. absurd (omega arith))
released F G (suc n) h =
    elim (released F G n (λ k l. h k (omega arith))) [
      | inr x ↦ inr (x.0, (let b = x.1 in omega arith), x.2, x.3)
      | inl all ↦
          elim (h n (omega arith)) [
            | inr x ↦ let b : x.0 < n = x.1 in inr (x.0, omega arith, x.2, λ j l. all j (omega arith))
            | inl here ↦
                inl (λ k l. elim (dec_lt k n) [ yes b ↦ all k b | no b ↦ let e : n ≡ k = omega arith in subst G e here ])
          ]
    ]

module _ (n u : ℕ) (h : u < n) where
  -- a part's truth at positions, and what holds of it at steps
  abbrev pub Agrees : (ℕ → Bool) → (ℕ → Type 0) → Type 0
  Agrees f F = (k : ℕ) → Decides (f (place n u k)) (F k)

  -- at the position j steps on
  onward : (f : ℕ → Bool) (F : ℕ → Type 0) → Agrees f F → (k j : ℕ) → Decides (f (later n u (place n u k) j)) (F (k + j))
  onward f F d k j = Decides-at _ _ (ap f (place_later n u k j h)) (d (k + j))

  -- at two steps of one position
  moved : (f : ℕ → Bool) (F : ℕ → Type 0) → Agrees f F → (a b : ℕ) → place n u a ≡ place n u b → F a → F b
  moved f F d a b e x = (d b).0 (ap f (sym e) ∙ (d a).1 x)

  -- at a later step, from the step within n that meets it; and back
  reached : (f : ℕ → Bool) (F : ℕ → Type 0) → Agrees f F → (i k : ℕ) → i ≤ k → (m : Met n u i (k - i)) → F (i + m.steps) → F k
  reached f F d i k l m x =
      let e : i + (k - i) ≡ k = omega arith in
      moved f F d (i + m.steps) k (m.same ∙ ap (place n u) e) x

  sooner : (f : ℕ → Bool) (F : ℕ → Type 0) → Agrees f F → (i k : ℕ) → i ≤ k → (m : Met n u i (k - i)) → F k → F (i + m.steps)
  sooner f F d i k l m x =
      let e : i + (k - i) ≡ k = omega arith in
      moved f F d k (i + m.steps) (ap (place n u) (sym e) ∙ sym m.same) x

  pub prefix_law : (op : Prefix) (f : ℕ → Bool) (F : ℕ → Type 0) → Agrees f F → Agrees (prefixed n u op f) (Prefixed op F)
  prefix_law Not f F d i = Decides-not _ (d i)
  prefix_law Next f F d i =
      let e : i + 1 ≡ suc i = omega arith in
      Decides-at _ _ (ap f (place_next n u i h ∙ ap (place n u) e)) (d (suc i))
  prefix_law Finally f F d i =
      Decides-like _
      (λ x. (i + x.0, omega arith, x.2))
      (λ x. let m = met n u i (x.0 - i) h in (m.steps, m.within, sooner f F d i x.0 x.1 m x.2))
      (decides_some (λ k. f (later n u (place n u i) k)) (λ k. F (i + k)) (onward f F d i) n)
  prefix_law Globally f F d i =
      Decides-like _
      (λ all k l. let m = met n u i (k - i) h in reached f F d i k l m (all m.steps m.within))
      (λ all k l. all (i + k) (omega arith))
      (decides_every (λ k. f (later n u (place n u i) k)) (λ k. F (i + k)) (onward f F d i) n)

  until_law : (f g : ℕ → Bool) (F G : ℕ → Type 0) → Agrees f F → Agrees g G → Agrees (infixed n u Until f g) (Infixed Until F G)
  until_law f g F G d e i =
      let at : ℕ → ℕ = later n u (place n u i) in
      Decides-like _
      (λ x. (i + x.0, omega arith, x.2.0, λ j l b. let z : i + (j - i) ≡ j = omega arith in subst F z (x.2.1 (j - i) (omega arith))))
      (λ x.
      let m = met n u i (x.0 - i) h in
      let s : m.steps ≤ x.0 - i = m.sooner in
      let l : i ≤ x.0 = x.1 in
      (m.steps, m.within, (sooner g G e i x.0 x.1 m x.2, λ j b. x.3 (i + j) (omega arith) (omega arith))))
      (decides_some (λ k. g (at k) && every k (λ j. f (at j))) (λ k. G (i + k) × ((j : ℕ) → j < k → F (i + j)))
      (λ k. Decides-and _ _ (onward g G e i k) (decides_every (λ j. f (at j)) (λ j. F (i + j)) (onward f F d i) k)) n)

  release_law : (f g : ℕ → Bool) (F G : ℕ → Type 0) → Agrees f F → Agrees g G → Agrees (infixed n u Release f g) (Infixed Release F G)
  release_law f g F G d e i =
      let at : ℕ → ℕ = later n u (place n u i) in
      Decides-like _
      (λ all.
      elim (released (λ k. F (i + k)) (λ k. G (i + k)) n all) [
        | inl ever ↦ inl (λ k l. let m = met n u i (k - i) h in reached g G e i k l m (ever m.steps m.within))
        | inr x ↦ inr (i + x.0, omega arith, x.2, λ j l b. let z : i + (j - i) ≡ j = omega arith in subst G z (x.3 (j - i) (omega arith)))
      ])
      (λ x k l.
      elim x [
        | inl ever ↦ inl (ever (i + k) (omega arith))
        | inr y ↦
            elim (dec_lt y.0 (i + k)) [
              | yes b ↦
                  let z : i + (y.0 - i) ≡ y.0 = let c : i ≤ y.0 = y.1 in omega arith in
                  inr (y.0 - i, (let c : i ≤ y.0 = y.1 in omega arith), subst F (sym z) y.2)
              | no b ↦ inl (y.3 (i + k) (omega arith) (omega arith))
            ]
      ])
      (decides_every (λ k. g (at k) || some k (λ j. f (at j))) (λ k. G (i + k) ⊎ ((j : ℕ) × (j < k) × F (i + j)))
      (λ k. Decides-or _ _ (onward g G e i k) (decides_some (λ j. f (at j)) (λ j. F (i + j)) (onward f F d i) k)) n)

  pub infix_law : (op : Infix) (f g : ℕ → Bool) (F G : ℕ → Type 0) → Agrees f F → Agrees g G → Agrees (infixed n u op f g) (Infixed op F G)
  infix_law Implies f g F G d e i = decides_implies _ _ (d i) (e i)
  infix_law Or f g F G d e i = Decides-or _ _ (d i) (e i)
  infix_law And f g F G d e i = Decides-and _ _ (d i) (e i)
  infix_law Until f g F G d e i = until_law f g F G d e i
  infix_law Release f g F G d e i = release_law f g F G d e i

-- the label of a step
pub spelled_at : (labels : List ℕ) (u k : ℕ) → u < length labels → spelled labels u k ≡ get_or labels (place (length labels) u k) 0
spelled_at labels u k h =
    let t : ltb u (length labels) ≡ true = lt-ltb u (length labels) h in
    let s : slice_get labels (place (length labels) u k) ≡ Some (get_or labels (place (length labels) u k) 0) = slice_get-get_or labels (place (length labels) u k) 0 (place_lt (length labels) u k h) in
    ap (λ (b : Bool). unwrap_or (cond b (slice_get labels (place (length labels) u k)) None) 0) t ∙ ap (λ (o : Option ℕ). unwrap_or o 0) s

pub position_law : PositionLaw
position_law (constant b) labels u h k = ((λ e. e), (λ e. e))
position_law (letter a) labels u h k =
    let e = spelled_at labels u k h in
    ((λ t. rw e t), (λ t. rw e at t))
position_law (unary op f) labels u h k =
    prefix_law (length labels) u h op (truth f labels u) (Holds (spelled labels u) f) (position_law f labels u h) k
position_law (binary op f g) labels u h k =
    infix_law (length labels) u h op (truth f labels u) (truth g labels u) (Holds (spelled labels u) f) (Holds (spelled labels u) g) (position_law f labels u h) (position_law g labels u h) k

-- at position 0, the journey's first step
pub first_law : (f : Formula) (labels : List ℕ) (u n : ℕ) (b : Bool) → n ≡ length labels → u < n → b ≡ truth f labels u 0 → Decides b (Holds (spelled labels u) f 0)
first_law f labels u n b same h e =
    let z : place (length labels) u 0 ≡ 0 = place_below (length labels) u 0 (omega arith) in
    Decides-at b _ (e ∙ ap (truth f labels u) (sym z)) (position_law f labels u (omega arith) 0)
