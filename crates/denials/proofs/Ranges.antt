-- A test of each number below n: from the lowest on, as a run through a range goes, and from the highest on.
use Rattle.std.proofs.Common.{◌≡◌, ℕ, zero, suc, ◌+◌, ◌<◌, Bool, true, false, ◌&&◌, ◌||◌, List, [], ◌∷◌, ◌++◌, Option, sym, refl, ap, ◌∙◌, ap₂, arith}
use mathlib.Core.Path.{fun_ext}
use Rattle.std.specs.List.{list_all, list_any, filter, range_with_len, FoldsTo}
use Rattle.std.specs.Fn.{Called}
use Rattle.std.specs.Iterator.{Drains}
use Rattle.std.proofs.lemmas.Fn.{fold_over}
use Rattle.std.proofs.lemmas.Iterator.{YieldsList}
use denote.Param.Members.{Mut}
use Rattle.lassos.specs.Truth.{some, every}

every_front : (n : ℕ) (p : ℕ → Bool) → every (suc n) p ≡ (p 0 && every n (λ k. p (suc k)))
every_front zero p = refl
every_front (suc n) p = ap (λ x. p (suc n) && x) (every_front n p) ∙ swap (p (suc n)) (p 0) (every n (λ k. p (suc k)))
  where
    swap : (x y z : Bool) → (x && (y && z)) ≡ (y && (x && z))
    swap true y z = refl
    swap false true z = refl
    swap false false z = refl

some_front : (n : ℕ) (p : ℕ → Bool) → some (suc n) p ≡ (p 0 || some n (λ k. p (suc k)))
some_front zero p = refl
some_front (suc n) p = ap (λ x. p (suc n) || x) (some_front n p) ∙ swap (p (suc n)) (p 0) (some n (λ k. p (suc k)))
  where
    swap : (x y z : Bool) → (x || (y || z)) ≡ (y || (x || z))
    swap false y z = refl
    swap true true z = refl
    swap true false z = refl

module _ (p : ℕ → Bool) where
  all_from : (a n : ℕ) → list_all p (range_with_len a n) ≡ every n (λ k. p (a + k))
  all_from a zero = refl
  all_from a (suc n) =
      let here : p a ≡ p (a + 0) = ap p (omega arith) in
      ap₂ (λ x y. x && y) here (all_from (a + 1) n ∙ ap (every n) (fun_ext (λ k. ap p (omega arith)))) ∙ sym (every_front n (λ k. p (a + k)))

  any_from : (a n : ℕ) → list_any p (range_with_len a n) ≡ some n (λ k. p (a + k))
  any_from a zero = refl
  any_from a (suc n) =
      let here : p a ≡ p (a + 0) = ap p (omega arith) in
      ap₂ (λ x y. x || y) here (any_from (a + 1) n ∙ ap (some n) (fun_ext (λ k. ap p (omega arith)))) ∙ sym (some_front n (λ k. p (a + k)))

  pub all_below : (n : ℕ) → list_all p (range_with_len 0 n) ≡ every n p
  all_below n = all_from 0 n ∙ ap (every n) (fun_ext (λ k. ap p (omega arith)))

  pub any_below : (n : ℕ) → list_any p (range_with_len 0 n) ≡ some n p
  any_below n = any_from 0 n ∙ ap (some n) (fun_ext (λ k. ap p (omega arith)))

-- a test of those that pass another
any_kept : (t p : ℕ → Bool) (x : ℕ) (xs : List ℕ) (b : Bool) → t x ≡ b → list_any p (filter t xs) ≡ list_any (λ k. t k && p k) xs → list_any p (filter t (x ∷ xs)) ≡ list_any (λ k. t k && p k) (x ∷ xs)
any_kept t p x xs true e h = rw e (ap (λ y. p x || y) h)
any_kept t p x xs false e h = rw e h

pub any_filtered : (t p : ℕ → Bool) (xs : List ℕ) → list_any p (filter t xs) ≡ list_any (λ k. t k && p k) xs
any_filtered t p [] = refl
any_filtered t p (x ∷ xs) = any_kept t p x xs (t x) refl (any_filtered t p xs)

-- tests that agree below n
pub some_same : (n : ℕ) (p q : ℕ → Bool) → ((k : ℕ) → k < n → p k ≡ q k) → some n p ≡ some n q
some_same zero p q h = refl
some_same (suc n) p q h = ap₂ (λ x y. x || y) (h n (omega arith)) (some_same n p q (λ k l. h k (omega arith)))

-- what a fold keeps of the items that it goes through, at a closure that no call changes
pub folded : {S A B F C : Type 0} {steps : S → Option A → S → Type 0} {v : A → B} {g : Mut F (C × (A × Unit {0})) C} {f : F} {s : S} {all : List B} {a r : C} (J : List B → C → Type 0)
    → (xs : List A) × (f' : F) × Drains steps s xs × FoldsTo {P = F × C} (λ p x q. Called g p.0 (p.1, (x, tt)) q.1 q.0) (f, a) xs (f', r)
    → YieldsList steps v s all → J [] a
    → ((ys : List B) (b : C) (x : A) (c : C) (f' : F) → J ys b → Called g f (b, (x, tt)) c f' → J (ys ++ (v x ∷ [])) c × (f' ≡ f))
    → J all r
folded {steps = steps} {v = v} {g = g} {f = f} {s = s} {all = all} {a = a} {r = r} J ran chain start step = fold_over steps v g J f step s all a r chain.runs start ran
