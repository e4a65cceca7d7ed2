-- The machine reads every text of the grammar.
use Rattle.std.proofs.Common.{◌≡◌, ℕ, suc, ◌+◌, ◌-◌, ◌<◌, ◌≤◌, true, false, cond, ltb, List, [], ◌∷◌, ◌++◌, refl, ap, ◌∙◌, arith, lit<, lit≤}
use Rattle.std.proofs.lemmas.Bool.{lt-ltb, le-ltb, le-leb}
use Rattle.std.proofs.lemmas.Bool.Decides.{nat_tests}
use Rattle.formulas.specs.declared.Prefix.{Prefix}
use Rattle.formulas.specs.declared.Prefix.TheVariants.{Not, Next, Finally, Globally}
use Rattle.formulas.specs.declared.Infix.{Infix}
use Rattle.formulas.specs.declared.Infix.TheVariants.{Implies, Or, And, Until, Release}
use Rattle.formulas.specs.declared.Sign.{Sign}
use Rattle.formulas.specs.declared.Sign.TheVariants.{Letter, Before}
use Rattle.formulas.specs.Formula.{Formula, constant, letter}
use Rattle.formulas.specs.Sign.{sign, is_letter, prefix_sign, infix_sign}
use Rattle.formulas.specs.Grammar.{level, left, right, Text, zero_text, one_text, letter_text, prefixed, bracketed, joined, tighter, blank_before, blank_after}
use Rattle.formulas.proofs.Machine.{Frame, bracket, waiting, halfway, bound, bound_top, apply, reduce, State, wanting, having, push, close, step, run, run_append}

-- a text of level l leaves only frames that bind at least so tight
abbrev reach : ℕ → ℕ
reach l = cond (ltb l 2) l (cond (ltb l 4) (l + 1) l)

reach_up : (l : ℕ) → reach l ≤ reach (suc l)
reach_up l = grind (arith, nat_tests)

left_reaches : (op : Infix) → level op < reach (left op)
left_reaches Implies = lit< tt
left_reaches Or = lit< tt
left_reaches And = lit< tt
left_reaches Until = lit< tt
left_reaches Release = lit< tt

reaches_right : (op : Infix) → reach (level op) ≤ right op
reaches_right Implies = lit≤ tt
reaches_right Or = lit≤ tt
reaches_right And = lit≤ tt
reaches_right Until = lit≤ tt
reaches_right Release = lit≤ tt

right_reaches : (op : Infix) → reach (level op) ≤ reach (right op)
right_reaches Implies = lit≤ tt
right_reaches Or = lit≤ tt
right_reaches And = lit≤ tt
right_reaches Until = lit≤ tt
right_reaches Release = lit≤ tt

pub level_left : (op : Infix) → level op ≤ left op
level_left Implies = lit≤ tt
level_left Or = lit≤ tt
level_left And = lit≤ tt
level_left Until = lit≤ tt
level_left Release = lit≤ tt

-- a frame that binds tighter takes its operand; one that does not, stays
pub reduce_takes : (c : ℕ) (x : Frame) (K : List Frame) (f : Formula) → c < bound x → reduce c (x ∷ K) f ≡ reduce c K (apply x f)
reduce_takes c x K f h = let e : ltb c (bound x) ≡ true = lt-ltb c (bound x) h in rw e

pub reduce_stays : (c : ℕ) (K : List Frame) (f : Formula) → bound_top K ≤ c → reduce c K f ≡ (K, f)
reduce_stays c [] f h = refl
reduce_stays c (x ∷ K) f h = let e : ltb c (bound x) ≡ false = le-ltb c (bound x) h in rw e

sign_letter : (a : ℕ) → a < 16 → sign (97 + a) ≡ Letter a
sign_letter a h =
    let e : is_letter (97 + a) ≡ true = rw (le-leb 97 (97 + a) (omega arith), le-leb (97 + a) 112 (omega arith)) in
    let d : (97 + a) - 97 ≡ a = omega arith in
    rw (e, d)

sign_prefix : (op : Prefix) → sign (prefix_sign op) ≡ Before op
sign_prefix Not = refl
sign_prefix Next = refl
sign_prefix Finally = refl
sign_prefix Globally = refl

-- after its left operand an infix sign is pushed
run_infix : (op : Infix) (K : List Frame) (f : Formula) → run (having K f) (infix_sign op) ≡ push op (reduce (level op) K f)
run_infix Implies K f = refl
run_infix Or K f = refl
run_infix And K f = refl
run_infix Until K f = refl
run_infix Release K f = refl

-- the text of f was read over the frames K: what is left to reduce gives f
pub record Done (l : ℕ) (K : List Frame) (f : Formula) (st : State) : Type 0 where
  pub frames : List Frame
  pub tree : Formula
  pub is : st ≡ having frames tree
  pub gives : (c : ℕ) → c < reach l → reduce c frames tree ≡ reduce c K f

at_once : (l : ℕ) (K : List Frame) (f : Formula) (st : State) → st ≡ having K f → Done l K f st
at_once l K f st e = record { frames = K; tree = f; is = e; gives = λ c h. refl }

pub reads : {l : ℕ} {s : List ℕ} {f : Formula} → Text l s f → (K : List Frame) → bound_top K ≤ l → Done l K f (run (wanting K) s)
reads zero_text K h = at_once 5 K (constant false) _ refl
reads one_text K h = at_once 5 K (constant true) _ refl
reads (letter_text a small) K h = at_once 5 K (letter a) _ (ap (λ (x : Sign). step (wanting K) x) (sign_letter a small))
reads (prefixed {s} {f} op t) K h =
    let d = reads t (waiting op ∷ K) (lit≤ tt) in
    let e : run (wanting K) (prefix_sign op ∷ s) ≡ run (wanting (waiting op ∷ K)) s = ap (λ (x : Sign). run (step (wanting K) x) s) (sign_prefix op) in
    record { frames = d.frames; tree = d.tree; is = e ∙ d.is; gives = λ c lt. d.gives c lt ∙ reduce_takes c (waiting op) K f lt }
reads (bracketed {s} {f} t) K h =
    let d = reads t (bracket ∷ K) (lit≤ tt) in
    let e : run (wanting K) (40 ∷ (s ++ (41 ∷ []))) ≡ run (run (wanting (bracket ∷ K)) s) (41 ∷ []) = run_append (wanting (bracket ∷ K)) s (41 ∷ []) in
    let g : run (run (wanting (bracket ∷ K)) s) (41 ∷ []) ≡ close (reduce 0 d.frames d.tree) = ap (λ (st : State). run st (41 ∷ [])) d.is in
    let c : reduce 0 d.frames d.tree ≡ (bracket ∷ K, f) = d.gives 0 (lit< tt) in
    at_once 5 K f _ (e ∙ g ∙ ap close c)
reads (joined {s} {t} {f} {g} op a b) K h =
    let d = reads a K (omega (arith, level_left op)) in
    let mid : reduce (level op) d.frames d.tree ≡ (K, f) = d.gives (level op) (left_reaches op) ∙ reduce_stays (level op) K f h in
    let over : List Frame = halfway op f ∷ K in
    let d2 = reads b over (omega arith) in
    let e1 : run (wanting K) (s ++ (infix_sign op ++ t)) ≡ run (run (wanting K) s) (infix_sign op ++ t) = run_append (wanting K) s (infix_sign op ++ t) in
    let e2 : run (run (wanting K) s) (infix_sign op ++ t) ≡ run (having d.frames d.tree) (infix_sign op ++ t) = ap (λ (st : State). run st (infix_sign op ++ t)) d.is in
    let e3 : run (having d.frames d.tree) (infix_sign op ++ t) ≡ run (run (having d.frames d.tree) (infix_sign op)) t = run_append (having d.frames d.tree) (infix_sign op) t in
    let e4 : run (run (having d.frames d.tree) (infix_sign op)) t ≡ run (wanting over) t = ap (λ (st : State). run st t) (run_infix op d.frames d.tree ∙ ap (push op) mid) in
    record { frames = d2.frames; tree = d2.tree; is = e1 ∙ e2 ∙ e3 ∙ e4 ∙ d2.is; gives = λ c lt. d2.gives c (omega (arith, right_reaches op)) ∙ reduce_takes c (halfway op f) K g (omega (arith, reaches_right op)) }
reads (tighter {l} {s} {f} low t) K h =
    let d = reads t K (omega arith) in
    record { frames = d.frames; tree = d.tree; is = d.is; gives = λ c lt. d.gives c (omega (arith, reach_up l)) }
reads (blank_before t) K h = reads t K h
reads (blank_after {l} {s} {f} t) K h =
    let d = reads t K h in
    let e : run (wanting K) (s ++ (32 ∷ [])) ≡ run (run (wanting K) s) (32 ∷ []) = run_append (wanting K) s (32 ∷ []) in
    record { frames = d.frames; tree = d.tree; is = e ∙ ap (λ (st : State). run st (32 ∷ [])) d.is; gives = d.gives }
