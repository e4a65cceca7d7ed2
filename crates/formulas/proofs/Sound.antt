-- What the machine has read is a text of the grammar, or can be completed to one.
use Rattle.std.proofs.Common.{◌≡◌, ℕ, zero, suc, ◌+◌, ◌-◌, ◌<◌, ◌≤◌, true, false, eqb, leb, List, [], ◌∷◌, ◌++◌, sym, refl, ap, ◌∙◌, subst, ap₂, append_assoc, arith, lit<, lit≤}
use native.Mathlib.Decide.{dec_lt}
use Rattle.std.proofs.lemmas.List.{append-nil}
use Rattle.std.proofs.lemmas.Bool.{cond_both, eqb-true, leb-true}
use Rattle.formulas.specs.declared.Prefix.{Prefix}
use Rattle.formulas.specs.declared.Infix.{Infix}
use Rattle.formulas.specs.declared.Infix.TheVariants.{Implies, Or, And, Until, Release}
use Rattle.formulas.specs.declared.Sign.{Sign}
use Rattle.formulas.specs.declared.Sign.TheVariants.{Blank, Open, Close, Dash, Head, Constant, Letter, Before, Between, Unknown}
use Rattle.formulas.specs.Formula.{Formula, constant, letter}
use Rattle.formulas.specs.Sign.{sign, is_letter, prefix_sign, infix_sign}
use Rattle.formulas.specs.Grammar.{level, left, right, Text, zero_text, one_text, letter_text, prefixed, bracketed, joined, tighter, blank_before, blank_after, Reads, Begins}
use Rattle.formulas.proofs.Values.{both_true}
use Rattle.formulas.proofs.Machine.{Frame, bracket, waiting, halfway, bound, bound_top, apply, reduce, State, wanting, having, dashed, failed, push, close_top, step, step_wanting, step_having, step_dashed, run, run_append, run_failed}
use Rattle.formulas.proofs.Complete.{reduce_takes, reduce_stays, reads, level_left}

-- the byte of a sign
abbrev pub Spelt : Sign → ℕ → Type 0
Spelt Blank b = b ≡ 32
Spelt Open b = b ≡ 40
Spelt Close b = b ≡ 41
Spelt Dash b = b ≡ 45
Spelt Head b = b ≡ 62
Spelt (Constant false) b = b ≡ 48
Spelt (Constant true) b = b ≡ 49
Spelt (Letter a) b = (a < 16) × (b ≡ 97 + a)
Spelt (Before op) b = b ≡ prefix_sign op
Spelt (Between op) b = infix_sign op ≡ b ∷ []
Spelt Unknown b = Unit {0}

pub spelt : (b : ℕ) → Spelt (sign b) b
spelt b =
    cond_both (is_letter b) _ _ P (λ e. let r = both_true (leb 97 b) (leb b 112) e in let lo = leb-true 97 b r.0 in let hi = leb-true b 112 r.1 in (omega arith, omega arith)) λ _.
    cond_both (eqb b 32) _ _ P (eqb-true b 32) λ _.
    cond_both (eqb b 40) _ _ P (eqb-true b 40) λ _.
    cond_both (eqb b 41) _ _ P (eqb-true b 41) λ _.
    cond_both (eqb b 45) _ _ P (eqb-true b 45) λ _.
    cond_both (eqb b 62) _ _ P (eqb-true b 62) λ _.
    cond_both (eqb b 48) _ _ P (eqb-true b 48) λ _.
    cond_both (eqb b 49) _ _ P (eqb-true b 49) λ _.
    cond_both (eqb b 33) _ _ P (eqb-true b 33) λ _.
    cond_both (eqb b 88) _ _ P (eqb-true b 88) λ _.
    cond_both (eqb b 70) _ _ P (eqb-true b 70) λ _.
    cond_both (eqb b 71) _ _ P (eqb-true b 71) λ _.
    cond_both (eqb b 124) _ _ P (λ e. one 124 (eqb-true b 124 e)) λ _.
    cond_both (eqb b 38) _ _ P (λ e. one 38 (eqb-true b 38 e)) λ _.
    cond_both (eqb b 85) _ _ P (λ e. one 85 (eqb-true b 85 e)) λ _.
    cond_both (eqb b 82) _ _ P (λ e. one 82 (eqb-true b 82 e)) λ _. tt
  where
    P : Sign → Type 0
    P s = Spelt s b

    one : (n : ℕ) → b ≡ n → (n ∷ []) ≡ (b ∷ [])
    one n e = ap (λ (x : ℕ). x ∷ []) (sym e)

-- a text of a tighter level is one of each looser level
pub looser : (n : ℕ) {l : ℕ} {s : List ℕ} {f : Formula} → 1 ≤ l → Text (n + l) s f → Text l s f
looser zero {l} low t = let e : 0 + l ≡ l = omega arith in rw e at t
looser (suc n) {l} {s} {f} low t =
    let e : suc n + l ≡ suc (n + l) = omega arith in
    let t' : Text (suc (n + l)) s f = rw e at t in
    looser n low (tighter (omega arith) t')

pub loosen : {l m : ℕ} {s : List ℕ} {f : Formula} → 1 ≤ l → l ≤ m → Text m s f → Text l s f
loosen {l} {m} {s} {f} low le t =
    let e : m ≡ (m - l) + l = omega arith in
    looser (m - l) low (rw e at t)

-- the text that leads to a stack of frames
pub data Opens : List Frame → List ℕ → Type 0 where
  none : Opens [] []
  open_bracket : {K : List Frame} {p : List ℕ} (q : List ℕ) → Opens K p → q ≡ p ++ (40 ∷ []) → Opens (bracket ∷ K) q
  open_prefix : {K : List Frame} {p : List ℕ} (op : Prefix) (q : List ℕ) → Opens K p → q ≡ p ++ (prefix_sign op ∷ []) → Opens (waiting op ∷ K) q
  open_infix : {K : List Frame} {p s : List ℕ} {f : Formula} (op : Infix) (q : List ℕ) → Opens K p → Text (left op) s f → bound_top K ≤ level op → q ≡ p ++ (s ++ infix_sign op) → Opens (halfway op f ∷ K) q
  open_blank : {K : List Frame} {p : List ℕ} (q : List ℕ) → Opens K p → q ≡ p ++ (32 ∷ []) → Opens K q

-- an operand of level l after a stack of frames
pub record Stands (K : List Frame) (l : ℕ) (f : Formula) (t : List ℕ) : Type 0 where
  pub front : List ℕ
  pub operand : List ℕ
  pub opens : Opens K front
  pub reads_as : Text l operand f
  pub whole : t ≡ front ++ operand
  pub fits : bound_top K ≤ l

pub right_low : (op : Infix) → 1 ≤ right op
right_low Implies = lit≤ tt
right_low Or = lit≤ tt
right_low And = lit≤ tt
right_low Until = lit≤ tt
right_low Release = lit≤ tt

pub level_low : (op : Infix) → 1 ≤ level op
level_low Implies = lit≤ tt
level_low Or = lit≤ tt
level_low And = lit≤ tt
level_low Until = lit≤ tt
level_low Release = lit≤ tt

pub left_low : (op : Infix) → 1 ≤ left op
left_low op = omega (arith, level_low op, level_left op)

pub left_high : (op : Infix) → left op ≤ 5
left_high Implies = lit≤ tt
left_high Or = lit≤ tt
left_high And = lit≤ tt
left_high Until = lit≤ tt
left_high Release = lit≤ tt

pub right_high : (op : Infix) → right op ≤ 5
right_high Implies = lit≤ tt
right_high Or = lit≤ tt
right_high And = lit≤ tt
right_high Until = lit≤ tt
right_high Release = lit≤ tt

bound_high : (K : List Frame) → bound_top K ≤ 5
bound_high [] = lit≤ tt
bound_high (bracket ∷ K) = lit≤ tt
bound_high (waiting op ∷ K) = lit≤ tt
bound_high (halfway op f ∷ K) = right_high op

-- what an infix sign reduces is tight enough to stand on its left
tight : (op o : Infix) → level op < right o → left op ≤ level o
tight Implies Implies h = omega arith
tight Implies Or h = omega arith
tight Implies And h = omega arith
tight Implies Until h = omega arith
tight Implies Release h = omega arith
tight Or Implies h = omega arith
tight Or Or h = omega arith
tight Or And h = omega arith
tight Or Until h = omega arith
tight Or Release h = omega arith
tight And Implies h = omega arith
tight And Or h = omega arith
tight And And h = omega arith
tight And Until h = omega arith
tight And Release h = omega arith
tight Until Implies h = omega arith
tight Until Or h = omega arith
tight Until And h = omega arith
tight Until Until h = omega arith
tight Until Release h = omega arith
tight Release Implies h = omega arith
tight Release Or h = omega arith
tight Release And h = omega arith
tight Release Until h = omega arith
tight Release Release h = omega arith

-- what a reduction leaves: an operand of level n at least
pub record Reduced (n : ℕ) (h : List Frame × Formula) (t : List ℕ) : Type 0 where
  pub at : ℕ
  pub enough : n ≤ at
  pub stands : Stands h.0 at h.1 t

regroup_one : (p s t q : List ℕ) (b : ℕ) → q ≡ p ++ (b ∷ []) → t ≡ q ++ s → t ≡ p ++ (b ∷ s)
regroup_one p s t q b e w = w ∙ ap (λ (x : List ℕ). x ++ s) e ∙ append_assoc p (b ∷ []) s

regroup : (p a m s t q : List ℕ) → q ≡ p ++ (a ++ m) → t ≡ q ++ s → t ≡ p ++ (a ++ (m ++ s))
regroup p a m s t q e w = w ∙ ap (λ (x : List ℕ). x ++ s) e ∙ append_assoc p (a ++ m) s ∙ ap (λ (x : List ℕ). p ++ x) (append_assoc a m s)

module _ (c n : ℕ) (high : n ≤ 5) (fit : (o : Infix) → c < right o → n ≤ level o) where
  stays : {K : List Frame} {p s : List ℕ} {f : Formula} {l : ℕ} (t : List ℕ) → Opens K p → Text l s f → bound_top K ≤ l → n ≤ l → t ≡ p ++ s → bound_top K ≤ c → Reduced n (reduce c K f) t
  stays {K} {p} {s} {f} {l} t o x b m w le =
      let e = reduce_stays c K f le in
      rw e (record { at = l; enough = m; stands = record { front = p; operand = s; opens = o; reads_as = x; whole = w; fits = b } })

  pub reduce_stands : {K : List Frame} {p s : List ℕ} {f : Formula} {l : ℕ} (t : List ℕ) → Opens K p → Text l s f → bound_top K ≤ l → n ≤ l → t ≡ p ++ s → Reduced n (reduce c K f) t
  reduce_stands t none x b m w = stays t none x b m w (omega arith)
  reduce_stands t (open_bracket q o e) x b m w = stays t (open_bracket q o e) x b m w (omega arith)
  reduce_stands {s = s} {f = f} t (open_prefix {K} {p} op q o e) x b m w =
      elim (dec_lt c 5) [
        | yes lt ↦ rw (reduce_takes c (waiting op) K f lt) (reduce_stands t o (prefixed op (loosen (lit≤ tt) b x)) (bound_high K) high (regroup_one p s t q (prefix_sign op) e w))
        | no ge ↦ stays t (open_prefix op q o e) x b m w (omega arith)
      ]
  reduce_stands {s = s} {f = f} t (open_infix {K} {p} {s = a} {f = g} op q o y k e) x b m w =
      elim (dec_lt c (right op)) [
        | yes lt ↦ rw (reduce_takes c (halfway op g) K f lt) (reduce_stands t o (joined op y (loosen (right_low op) b x)) k (fit op lt) (regroup p a (infix_sign op) s t q e w))
        | no ge ↦ stays t (open_infix op q o y k e) x b m w (omega arith)
      ]
  reduce_stands {s = s} t (open_blank {K} {p} q o e) x b m w = reduce_stands t o (blank_before x) b m (regroup_one p s t q 32 e w)

pub reduce_bound : (c : ℕ) (K : List Frame) (f : Formula) → bound_top (reduce c K f).0 ≤ c
reduce_bound c [] f = omega arith
reduce_bound c (x ∷ K) f =
    elim (dec_lt c (bound x)) [
      | yes lt ↦ rw (reduce_takes c x K f lt) (reduce_bound c K (apply x f))
      | no ge ↦ let le : bound_top (x ∷ K) ≤ c = omega arith in rw (reduce_stays c (x ∷ K) f le) le
    ]

-- a closing bracket ends the bracket on top
close_bracket : {K : List Frame} {p s : List ℕ} {f : Formula} {l : ℕ} (t : List ℕ) → Opens (bracket ∷ K) p → Text l s f → 1 ≤ l → t ≡ p ++ s → Stands K 5 f (t ++ (41 ∷ []))
close_bracket {K} {s = s} t (open_bracket {p = p} q o e) x m w =
    let g : t ≡ p ++ (40 ∷ s) = regroup_one p s t q 40 e w in
    record { front = p; operand = 40 ∷ (s ++ (41 ∷ [])); opens = o; reads_as = bracketed (loosen (lit≤ tt) m x); whole = ap (λ (y : List ℕ). y ++ (41 ∷ [])) g ∙ append_assoc p (40 ∷ s) (41 ∷ []); fits = bound_high K }
close_bracket {s = s} t (open_blank {p = p} q o e) x m w = close_bracket t o (blank_before x) m (regroup_one p s t q 32 e w)

-- what the machine's state says of the text that led to it
abbrev pub Sound : State → List ℕ → Type 0
Sound (wanting K) t = Opens K t
Sound (having K f) t = Stands K 5 f t
Sound (dashed K f) t = (u : List ℕ) × Stands K 5 f u × (t ≡ u ++ (45 ∷ []))
Sound failed t = Unit {0}

push_sound : (op : Infix) (K : List Frame) (f : Formula) (u t : List ℕ) → Stands K 5 f u → t ≡ u ++ infix_sign op → Sound (push op (reduce (level op) K f)) t
push_sound op K f u t st e =
    let r = reduce_stands (level op) (left op) (left_high op) (tight op) u st.opens st.reads_as st.fits (left_high op) st.whole in
    let x = r.stands in
    let g : t ≡ x.front ++ (x.operand ++ infix_sign op) = e ∙ ap (λ (y : List ℕ). y ++ infix_sign op) x.whole ∙ append_assoc x.front x.operand (infix_sign op) in
    open_infix op t x.opens (loosen (left_low op) r.enough x.reads_as) (reduce_bound (level op) K f) g

close_sound : (K : List Frame) (f : Formula) (t : List ℕ) (l : ℕ) → 1 ≤ l → Stands K l f t → Sound (close_top K f) (t ++ (41 ∷ []))
close_sound [] f t l m st = tt
close_sound (bracket ∷ K) f t l m st = close_bracket t st.opens st.reads_as m st.whole
close_sound (waiting op ∷ K) f t l m st = tt
close_sound (halfway op g ∷ K) f t l m st = tt

-- an operand of one byte
atom : (K : List Frame) (t : List ℕ) (b : ℕ) (f : Formula) → Opens K t → Text 5 (b ∷ []) f → Stands K 5 f (t ++ (b ∷ []))
atom K t b f o x = record { front = t; operand = b ∷ []; opens = o; reads_as = x; whole = refl; fits = bound_high K }

wanting_sound : (K : List Frame) (t : List ℕ) (b : ℕ) → Opens K t → (s : Sign) → Spelt s b → Sound (step_wanting K s) (t ++ (b ∷ []))
wanting_sound K t b o Blank e = open_blank (t ++ (b ∷ [])) o (ap (λ (x : ℕ). t ++ (x ∷ [])) e)
wanting_sound K t b o Open e = open_bracket (t ++ (b ∷ [])) o (ap (λ (x : ℕ). t ++ (x ∷ [])) e)
wanting_sound K t b o Close e = tt
wanting_sound K t b o Dash e = tt
wanting_sound K t b o Head e = tt
wanting_sound K t b o (Constant false) e = atom K t b (constant false) o (rw e zero_text)
wanting_sound K t b o (Constant true) e = atom K t b (constant true) o (rw e one_text)
wanting_sound K t b o (Letter a) e = let e1 = e.1 in atom K t b (letter a) o (rw e1 (letter_text a e.0))
wanting_sound K t b o (Before op) e = open_prefix op (t ++ (b ∷ [])) o (ap (λ (x : ℕ). t ++ (x ∷ [])) e)
wanting_sound K t b o (Between op) e = tt
wanting_sound K t b o Unknown e = tt

having_sound : (K : List Frame) (f : Formula) (t : List ℕ) (b : ℕ) → Stands K 5 f t → (s : Sign) → Spelt s b → Sound (step_having K f s) (t ++ (b ∷ []))
having_sound K f t b st Blank e =
    let w : t ++ (b ∷ []) ≡ st.front ++ (st.operand ++ (32 ∷ [])) = ap (λ (x : ℕ). t ++ (x ∷ [])) e ∙ ap (λ (y : List ℕ). y ++ (32 ∷ [])) st.whole ∙ append_assoc st.front st.operand (32 ∷ []) in
    record { front = st.front; operand = st.operand ++ (32 ∷ []); opens = st.opens; reads_as = blank_after st.reads_as; whole = w; fits = st.fits }
having_sound K f t b st Open e = tt
having_sound K f t b st Close e =
    let r = reduce_stands 0 1 (lit≤ tt) (λ o _. level_low o) t st.opens st.reads_as st.fits (lit≤ tt) st.whole in
    let x = close_sound (reduce 0 K f).0 (reduce 0 K f).1 t r.at r.enough r.stands in
    rw e x
having_sound K f t b st Dash e = (t, st, ap (λ (x : ℕ). t ++ (x ∷ [])) e)
having_sound K f t b st Head e = tt
having_sound K f t b st (Constant c) e = tt
having_sound K f t b st (Letter a) e = tt
having_sound K f t b st (Before op) e = tt
having_sound K f t b st (Between op) e = push_sound op K f t (t ++ (b ∷ [])) st (ap (λ (y : List ℕ). t ++ y) (sym e))
having_sound K f t b st Unknown e = tt

dashed_sound : (K : List Frame) (f : Formula) (t : List ℕ) (b : ℕ) → Sound (dashed K f) t → (s : Sign) → Spelt s b → Sound (step_dashed K f s) (t ++ (b ∷ []))
dashed_sound K f t b st Blank e = tt
dashed_sound K f t b st Open e = tt
dashed_sound K f t b st Close e = tt
dashed_sound K f t b st Dash e = tt
dashed_sound K f t b st Head e =
    let u = st.0 in
    let w : t ++ (b ∷ []) ≡ u ++ (45 ∷ 62 ∷ []) = ap (λ (x : ℕ). t ++ (x ∷ [])) e ∙ ap (λ (y : List ℕ). y ++ (62 ∷ [])) st.2 ∙ append_assoc u (45 ∷ []) (62 ∷ []) in
    push_sound Implies K f u (t ++ (b ∷ [])) st.1 w
dashed_sound K f t b st (Constant c) e = tt
dashed_sound K f t b st (Letter a) e = tt
dashed_sound K f t b st (Before op) e = tt
dashed_sound K f t b st (Between op) e = tt
dashed_sound K f t b st Unknown e = tt

pub step_sound : (st : State) (t : List ℕ) (b : ℕ) → Sound st t → Sound (step st (sign b)) (t ++ (b ∷ []))
step_sound (wanting K) t b o = wanting_sound K t b o (sign b) (spelt b)
step_sound (having K f) t b o = having_sound K f t b o (sign b) (spelt b)
step_sound (dashed K f) t b o = dashed_sound K f t b o (sign b) (spelt b)
step_sound failed t b o = tt

pub run_sound : (st : State) (t s : List ℕ) → Sound st t → Sound (run st s) (t ++ s)
run_sound st t [] o = rw append-nil o
run_sound st t (b ∷ s) o =
    let r = run_sound (step st (sign b)) (t ++ (b ∷ [])) s (step_sound st t b o) in
    let e = append_assoc t (b ∷ []) s in
    rw e at r

-- what begins a text is begun by each of its fronts
pub begins_front : (t u : List ℕ) → Begins (t ++ u) → Begins t
begins_front t u (rest, f, r) = (u ++ rest, f, rw (append_assoc t u rest) at r)

-- every stack can be closed
close_up : {K : List Frame} {p s : List ℕ} {f : Formula} {l : ℕ} (t : List ℕ) → Opens K p → Text l s f → bound_top K ≤ l → 1 ≤ l → t ≡ p ++ s → Begins t
close_up {s = s} {f = f} t none x b m w =
    let e : t ++ [] ≡ s = append-nil t ∙ w in
    ([], f, rw e (loosen (lit≤ tt) m x))
close_up {s = s} t (open_bracket {K} {p} q o e) x b m w =
    let g : t ++ (41 ∷ []) ≡ p ++ (40 ∷ (s ++ (41 ∷ []))) = ap (λ (y : List ℕ). y ++ (41 ∷ [])) (regroup_one p s t q 40 e w) ∙ append_assoc p (40 ∷ s) (41 ∷ []) in
    begins_front t (41 ∷ []) (close_up (t ++ (41 ∷ [])) o (bracketed (loosen (lit≤ tt) m x)) (bound_high K) (lit≤ tt) g)
close_up {s = s} t (open_prefix {K} {p} op q o e) x b m w = close_up t o (prefixed op (loosen (lit≤ tt) b x)) (bound_high K) (lit≤ tt) (regroup_one p s t q (prefix_sign op) e w)
close_up {s = s} t (open_infix {K} {p} {s = a} op q o y k e) x b m w = close_up t o (joined op y (loosen (right_low op) b x)) k (level_low op) (regroup p a (infix_sign op) s t q e w)
close_up {s = s} t (open_blank {K} {p} q o e) x b m w = close_up t o (blank_before x) b m (regroup_one p s t q 32 e w)

stands_begins : (K : List Frame) (f : Formula) (t : List ℕ) → Stands K 5 f t → Begins t
stands_begins K f t st = close_up t st.opens st.reads_as st.fits (lit≤ tt) st.whole

opens_begins : (K : List Frame) (t : List ℕ) → Opens K t → Begins t
opens_begins K t o = begins_front t (97 ∷ []) (stands_begins K (letter 0) (t ++ (97 ∷ [])) (atom K t 97 (letter 0) o (letter_text 0 (lit< tt))))

-- a state other than failed
abbrev pub Alive : State → Type 0
Alive (wanting K) = Unit {0}
Alive (having K f) = Unit {0}
Alive (dashed K f) = Unit {0}
Alive failed = ⊥

pub alive_begins : (st : State) (t : List ℕ) → Sound st t → Alive st → Begins t
alive_begins (wanting K) t o a = opens_begins K t o
alive_begins (having K f) t o a = stands_begins K f t o
alive_begins (dashed K f) t o a =
    let n = dashed_sound K f t 62 o Head refl in
    begins_front t (62 ∷ []) (opens_begins (halfway Implies (reduce 1 K f).1 ∷ (reduce 1 K f).0) (t ++ (62 ∷ [])) n)
alive_begins failed t o a = absurd a

nothing_open : {p s : List ℕ} {f : Formula} {l : ℕ} (t : List ℕ) → Opens [] p → Text l s f → 1 ≤ l → t ≡ p ++ s → Reads t f
nothing_open t none x m w = rw w (loosen (lit≤ tt) m x)
nothing_open {s = s} t (open_blank {p = p} q o e) x m w = nothing_open t o (blank_before x) m (regroup_one p s t q 32 e w)

ended : (h : List Frame × Formula) (f : Formula) (t : List ℕ) → h ≡ ([], f) → Reduced 1 h t → Reads t f
ended h f t e r =
    let r' : Reduced 1 ([], f) t = rw e at r in
    let x = r'.stands in
    nothing_open t x.opens x.reads_as r'.enough x.whole

-- the four facts for a reader: from the start over the whole text
pub accepted_reads : (t : List ℕ) (K : List Frame) (g f : Formula) → run (wanting []) t ≡ having K g → reduce 0 K g ≡ ([], f) → Reads t f
accepted_reads t K g f e r =
    let o : Sound (run (wanting []) t) t = run_sound (wanting []) [] t none in
    let st : Stands K 5 g t = rw e at o in
    let x = reduce_stands 0 1 (lit≤ tt) (λ o _. level_low o) t st.opens st.reads_as st.fits (lit≤ tt) st.whole in
    ended (reduce 0 K g) f t r x

pub reads_accepted : (t : List ℕ) (f : Formula) → Reads t f → (K : List Frame) × (g : Formula) × (run (wanting []) t ≡ having K g) × (reduce 0 K g ≡ ([], f))
reads_accepted t f x =
    let d = reads x [] (omega arith) in
    (d.frames, d.tree, d.is, d.gives 0 (lit< tt))

pub alive_run : (t : List ℕ) → Alive (run (wanting []) t) → Begins t
alive_run t a = alive_begins (run (wanting []) t) t (run_sound (wanting []) [] t none) a

having_not_failed : (K : List Frame) (g : Formula) → having K g ≡ failed → ⊥
having_not_failed K g e = subst Alive e tt

pub failed_run : (t : List ℕ) → run (wanting []) t ≡ failed → Begins t → ⊥
failed_run t e (rest, f, x) =
    let a = reads_accepted (t ++ rest) f x in
    let b : run (wanting []) (t ++ rest) ≡ failed = run_append (wanting []) t rest ∙ ap (λ (st : State). run st rest) e ∙ run_failed rest in
    having_not_failed a.0 a.1 (sym a.2 ∙ b)

-- a text has at most one formula
same_having : (K L : List Frame) (f g : Formula) → having K f ≡ having L g → (K ≡ L) × (f ≡ g)
same_having K L f g e = (cc, cc)

pub one_formula : (t : List ℕ) (f g : Formula) → Reads t f → Reads t g → f ≡ g
one_formula t f g x y =
    let a = reads_accepted t f x in
    let b = reads_accepted t g y in
    let s = same_having a.0 b.0 a.1 b.1 (sym a.2 ∙ b.2) in
    let p : reduce 0 a.0 a.1 ≡ reduce 0 b.0 b.1 = ap₂ (reduce 0) s.0 s.1 in
    ap (λ (h : List Frame × Formula). h.1) (sym a.3 ∙ p ∙ b.3)
