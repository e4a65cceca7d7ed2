-- Until and release by two sweeps back round the loop. A sweep goes from the last position to the first and makes each
-- value from the one after it; the first sweep, begun with false for until and true for release, already has the right
-- value at the lead-in, and the second, begun with that value, has the right value everywhere.
use Rattle.std.proofs.Common.{◌≡◌, ℕ, zero, suc, ◌+◌, ◌-◌, ◌<◌, ◌≤◌, Bool, true, false, cond, not, ◌&&◌, ◌||◌, Decides, sym, refl, ap, ◌∙◌, inl, inr, arith}
use mathlib.Core.Path.{fun_ext}
use native.Mathlib.Decide.{dec_lt}
use Rattle.std.proofs.lemmas.Bool.{cases_Bool}
use Rattle.std.proofs.lemmas.Bool.Decides.{Decides-and, Decides-or, Decides-like, same_from_decides}
use Rattle.formulas.specs.declared.Prefix.TheVariants.{Finally, Globally}
use Rattle.formulas.specs.declared.Infix.{Infix}
use Rattle.formulas.specs.declared.Infix.TheVariants.{Until, Release}
use Rattle.lassos.specs.Lasso.{later, place}
use Rattle.lassos.specs.Truth.{some, every, prefixed, infixed}
use Rattle.lassos.specs.Word.{Infixed}
use Rattle.lassos.proofs.Places.{place_below, place_lt, place_near, place_last}
use Rattle.lassos.proofs.Laws.{infix_law}

-- the value at a position from the value at the next: until, or its dual release
abbrev pub step_back : Bool → Bool → Bool → Bool → Bool
step_back dual stay goal next = cond dual (goal && (stay || next)) (goal || (stay && next))

-- the value after m steps back from position n, where it is `next`
abbrev pub swept : Bool → (ℕ → Bool) → (ℕ → Bool) → ℕ → Bool → ℕ → Bool
swept dual stay goal n next zero = next
swept dual stay goal n next (suc m) = step_back dual (stay (n - suc m)) (goal (n - suc m)) (swept dual stay goal n next m)

-- two sweeps: the value at position i
abbrev pub settled : Bool → (ℕ → Bool) → (ℕ → Bool) → ℕ → ℕ → ℕ → Bool
settled dual stay goal n u i = swept dual stay goal n (swept dual stay goal n dual (n - u)) (n - i)

-- which of the two a sweep is for
abbrev pub swept_infix : Bool → Infix
swept_infix dual = cond dual Release Until

module _ (dual : Bool) (stay goal : ℕ → Bool) (n : ℕ) (next : Bool) where
  -- at position i, from the position after it
  pub swept_more : (i : ℕ) → i < n → swept dual stay goal n next (n - i) ≡ step_back dual (stay i) (goal i) (swept dual stay goal n next (n - (i + 1)))
  swept_more i l =
      let e : n - i ≡ suc (n - (i + 1)) = omega arith in
      let z : n - suc (n - (i + 1)) ≡ i = omega arith in
      ap (swept dual stay goal n next) e
      ∙ ap (λ (j : ℕ). step_back dual (stay j) (goal j) (swept dual stay goal n next (n - (i + 1)))) z

  pub swept_back : (i : ℕ) → 0 < i → i ≤ n → swept dual stay goal n next (n - (i - 1)) ≡ step_back dual (stay (i - 1)) (goal (i - 1)) (swept dual stay goal n next (n - i))
  swept_back i p l =
      let e : i - 1 + 1 ≡ i = omega arith in
      swept_more (i - 1) (omega arith) ∙ ap (λ (j : ℕ). step_back dual (stay (i - 1)) (goal (i - 1)) (swept dual stay goal n next (n - j))) e

  pub swept_none : swept dual stay goal n next (n - n) ≡ next
  swept_none = let e : n - n ≡ 0 = omega arith in ap (swept dual stay goal n next) e

-- a sweep reads no position from n on
pub swept_agree : (dual : Bool) (f f' g g' : ℕ → Bool) (n : ℕ) (next : Bool) → ((i : ℕ) → i < n → f i ≡ f' i) → ((i : ℕ) → i < n → g i ≡ g' i) → (m : ℕ) → m ≤ n → swept dual f g n next m ≡ swept dual f' g' n next m
swept_agree dual f f' g g' n next p q zero l = refl
swept_agree dual f f' g g' n next p q (suc m) l =
    let a = p (n - suc m) (omega arith) in
    let b = q (n - suc m) (omega arith) in
    let c = swept_agree dual f f' g g' n next p q m (omega arith) in
    ap (λ (x : Bool). step_back dual x (g (n - suc m)) (swept dual f g n next m)) a
    ∙ ap (λ (x : Bool). step_back dual (f' (n - suc m)) x (swept dual f g n next m)) b
    ∙ ap (λ (x : Bool). step_back dual (f' (n - suc m)) (g' (n - suc m)) x) c

pub settled_agree : (dual : Bool) (f f' g g' : ℕ → Bool) (n u : ℕ) → ((i : ℕ) → i < n → f i ≡ f' i) → ((i : ℕ) → i < n → g i ≡ g' i) → (i : ℕ) → settled dual f g n u i ≡ settled dual f' g' n u i
settled_agree dual f f' g g' n u p q i =
    let first = swept_agree dual f f' g g' n dual p q (n - u) (omega arith) in
    ap (λ (b : Bool). swept dual f g n b (n - i)) first
    ∙ swept_agree dual f f' g g' n (swept dual f' g' n dual (n - u)) p q (n - i) (omega arith)

module _ (n u : ℕ) (h : u < n) (f g : ℕ → Bool) where
  abbrev value : ℕ → Bool
  value k = infixed n u Until f g (place n u k)

  abbrev Stay : ℕ → Type 0
  Stay k = f (place n u k) ≡ true

  abbrev Goal : ℕ → Type 0
  Goal k = g (place n u k) ≡ true

  decided : (k : ℕ) → Decides (value k) (Infixed Until Stay Goal k)
  decided = infix_law n u h Until f g Stay Goal (λ k. ((λ e. e), (λ e. e))) (λ k. ((λ e. e), (λ e. e)))

  -- until now: the goal here, or staying here and until from the next step
  until_more : (k : ℕ) → value k ≡ step_back false (f (place n u k)) (g (place n u k)) (value (k + 1))
  until_more k =
      same_from_decides _ _ (decided k)
      (Decides-like _
      (λ x.
      elim x [
        | inl here ↦ (k, omega arith, here, λ j l b. absurd (omega arith))
        | inr y ↦
            let next = y.1 in
            let l : k + 1 ≤ next.0 = next.1 in (
              next.0,
              omega arith,
              next.2,
              λ j a b. elim (dec_lt k j) [ yes c ↦ next.3 j (omega arith) b | no c ↦ let e : k ≡ j = omega arith in rw (← e) y.0 ],
            )
      ])
      (λ x.
      elim (dec_lt k x.0) [
        | yes l ↦ inr (x.3 k (omega arith) l, (x.0, omega arith, x.2, λ j a b. x.3 j (omega arith) b))
        | no l ↦ let e : x.0 ≡ k = let c : k ≤ x.0 = x.1 in omega arith in inl (rw e at x.2)
      ])
      (Decides-or (g (place n u k)) (f (place n u k) && value (k + 1)) ((λ e. e), (λ e. e))
      (Decides-and (f (place n u k)) (value (k + 1)) ((λ e. e), (λ e. e)) (decided (k + 1)))))

  -- a sweep that begins with the right value goes on with right values
  fixed : (m : ℕ) → m ≤ n → swept false f g n (value n) m ≡ value (n - m)
  fixed zero l = let e : n ≡ n - 0 = omega arith in ap value e
  fixed (suc m) l =
      let i : ℕ = n - suc m in
      let e : n - m ≡ i + 1 = omega arith in
      let here : i ≡ place n u i = sym (place_below n u i (omega arith)) in
      ap (λ (x : Bool). step_back false (f i) (g i) x) (fixed m (omega arith) ∙ ap value e)
      ∙ ap (λ (j : ℕ). step_back false (f j) (g j) (value (i + 1))) here
      ∙ sym (until_more i)

  -- a goal met on the way back makes the value true from there on back to where staying fails
  found : (b : Bool) (d k i : ℕ) → k < n → i + d ≡ k → g k ≡ true → ((j : ℕ) → i ≤ j → j < k → f j ≡ true) → swept false f g n b (n - i) ≡ true
  found b zero k i l e goal stay =
      let z : i ≡ k = omega arith in
      let here : g i ≡ true = rw z goal in
      swept_more false f g n b i (omega arith) ∙ rw here refl
  found b (suc d) k i l e goal stay =
      let here : f i ≡ true = stay i (omega arith) (omega arith) in
      let next : swept false f g n b (n - (i + 1)) ≡ true = found b d k (i + 1) l (omega arith) goal (λ j a c. stay j (omega arith) c) in
      swept_more false f g n b i (omega arith) ∙ rw (here, next) (or_true (g i))
    where
      or_true : (x : Bool) → (x || true) ≡ true
      or_true true = refl
      or_true false = refl

  -- the first sweep is right at the lead-in
  first : value n ≡ swept false f g n false (n - u)
  first =
      let back : swept false f g n (value n) (n - u) ≡ value u = fixed (n - u) (omega arith) ∙ (let e : n - (n - u) ≡ u = omega arith in ap value e) in
      let same : value u ≡ value n = ap (infixed n u Until f g) (place_below n u u h ∙ sym (place_last n u h)) in
      elim (cases_Bool (value n)) [
        | inr never ↦ never ∙ sym (ap (λ (b : Bool). swept false f g n b (n - u)) (sym never) ∙ back ∙ same ∙ never)
        | inl sometime ↦
            let w = (decided u).0 (same ∙ sometime) in
            let low : u ≤ w.0 = w.1 in
            let k : ℕ = place n u w.0 in
            let lt : k < n = place_lt n u w.0 h in
            let a : u ≤ k = (place_near n u w.0 low).0 in
            let b : k ≤ w.0 = (place_near n u w.0 low).1 in
            sometime
            ∙ sym
            (found false (k - u) k u lt (omega arith) w.2
            (λ j c d. let e : place n u j ≡ j = place_below n u j (omega arith) in rw e at (w.3 j c (omega arith))))
      ]

  until_settled : (i : ℕ) → i < n → infixed n u Until f g i ≡ settled false f g n u i
  until_settled i l =
      let e : n - (n - i) ≡ i = omega arith in
      ap (infixed n u Until f g) (sym (place_below n u i l))
      ∙ ap value (sym e)
      ∙ sym (fixed (n - i) (omega arith))
      ∙ ap (λ (b : Bool). swept false f g n b (n - i)) first

-- release is the dual of until
not_not : (b : Bool) → not (not b) ≡ b
not_not true = refl
not_not false = refl

not_some : (n : ℕ) (p : ℕ → Bool) → not (some n p) ≡ every n (λ k. not (p k))
not_some zero p = refl
not_some (suc n) p = cases (p n) (not_some n p)
  where
    cases : (b : Bool) → not (some n p) ≡ every n (λ k. not (p k)) → not (b || some n p) ≡ (not b && every n (λ k. not (p k)))
    cases true e = refl
    cases false e = e

not_every : (n : ℕ) (p : ℕ → Bool) → not (every n p) ≡ some n (λ k. not (p k))
not_every zero p = refl
not_every (suc n) p = cases (p n) (not_every n p)
  where
    cases : (b : Bool) → not (every n p) ≡ some n (λ k. not (p k)) → not (b && every n p) ≡ (not b || some n (λ k. not (p k)))
    cases true e = e
    cases false e = refl

not_and : (a b : Bool) → not (not a && b) ≡ (a || not b)
not_and true b = refl
not_and false b = refl

pub release_dual : (n u : ℕ) (f g : ℕ → Bool) (i : ℕ) → infixed n u Release f g i ≡ not (infixed n u Until (λ j. not (f j)) (λ j. not (g j)) i)
release_dual n u f g i =
    sym
    (not_some n (λ k. not (g (later n u i k)) && every k (λ j. not (f (later n u i j))))
    ∙ ap (every n)
    (fun_ext
    (λ k.
    not_and (g (later n u i k)) (every k (λ j. not (f (later n u i j))))
    ∙ ap (λ (b : Bool). g (later n u i k) || b) (not_every k (λ j. not (f (later n u i j))) ∙ ap (some k) (fun_ext (λ j. not_not (f (later n u i j))))))))

step_dual : (f g x : Bool) → not (step_back false (not f) (not g) x) ≡ step_back true f g (not x)
step_dual true true x = refl
step_dual false true x = refl
step_dual true false x = refl
step_dual false false x = refl

swept_dual : (f g : ℕ → Bool) (n : ℕ) (next : Bool) (m : ℕ) → not (swept false (λ j. not (f j)) (λ j. not (g j)) n next m) ≡ swept true f g n (not next) m
swept_dual f g n next zero = refl
swept_dual f g n next (suc m) =
    step_dual (f (n - suc m)) (g (n - suc m)) (swept false (λ j. not (f j)) (λ j. not (g j)) n next m)
    ∙ ap (step_back true (f (n - suc m)) (g (n - suc m))) (swept_dual f g n next m)

release_settled : (n u : ℕ) → u < n → (f g : ℕ → Bool) (i : ℕ) → i < n → infixed n u Release f g i ≡ settled true f g n u i
release_settled n u h f g i l =
    let f' : ℕ → Bool = λ j. not (f j) in
    let g' : ℕ → Bool = λ j. not (g j) in
    release_dual n u f g i
    ∙ ap not (until_settled n u h f' g' i l)
    ∙ swept_dual f g n (swept false f' g' n false (n - u)) (n - i)
    ∙ ap (λ (b : Bool). swept true f g n b (n - i)) (swept_dual f g n false (n - u))

-- until and release are what two sweeps make
pub infix_settled : (dual : Bool) (n u : ℕ) → u < n → (f g : ℕ → Bool) (i : ℕ) → i < n → infixed n u (swept_infix dual) f g i ≡ settled dual f g n u i
infix_settled true n u h f g i l = release_settled n u h f g i l
infix_settled false n u h f g i l = until_settled n u h f g i l

-- finally is until with staying always allowed, globally is release with nothing that releases
every_true : (n : ℕ) → every n (λ k. true) ≡ true
every_true zero = refl
every_true (suc n) = every_true n

some_false : (n : ℕ) → some n (λ k. false) ≡ false
some_false zero = refl
some_false (suc n) = some_false n

and_true : (b : Bool) → b ≡ (b && true)
and_true true = refl
and_true false = refl

or_false : (b : Bool) → b ≡ (b || false)
or_false true = refl
or_false false = refl

pub finally_until : (n u : ℕ) (f : ℕ → Bool) (i : ℕ) → prefixed n u Finally f i ≡ infixed n u Until (λ j. true) f i
finally_until n u f i =
    ap (some n) (fun_ext (λ k. and_true (f (later n u i k)) ∙ ap (λ (b : Bool). f (later n u i k) && b) (sym (every_true k))))

pub globally_release : (n u : ℕ) (f : ℕ → Bool) (i : ℕ) → prefixed n u Globally f i ≡ infixed n u Release (λ j. false) f i
globally_release n u f i =
    ap (every n) (fun_ext (λ k. or_false (f (later n u i k)) ∙ ap (λ (b : Bool). f (later n u i k) || b) (sym (some_false k))))
