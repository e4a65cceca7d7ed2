-- The judge's table: a row of n truth values for each part of a rule, in bytes, one row behind the other.
use Rattle.std.proofs.Common.{◌≡◌, ℕ, suc, ◌+◌, ◌-◌, ◌*◌, ◌<◌, ◌≤◌, Bool, true, false, cond, not, ◌&&◌, ◌||◌, eqb, ltb, List, ◌++◌, length, get_or, set, sym, refl, ap, ◌∙◌, subst, suc-mul, arith}
use mathlib.Core.Path.{fun_ext}
use native.Mathlib.Decide.{dec_lt}
use mir.Val.{bool_byte}
use Rattle.std.proofs.Math.ListN.{get_or-append}
use Rattle.std.proofs.lemmas.List.{get_or-set_same, get_or-set_other, length-set, get_or-append-add}
use Rattle.std.proofs.lemmas.Nat.{mul-le}
use Rattle.std.proofs.lemmas.Bool.{ltb-true}
use Rattle.formulas.specs.declared.Prefix.{Prefix}
use Rattle.formulas.specs.declared.Prefix.TheVariants.{Not, Next, Finally, Globally}
use Rattle.formulas.specs.declared.Infix.{Infix}
use Rattle.formulas.specs.declared.Infix.TheVariants.{Implies, Or, And, Until, Release}
use Rattle.formulas.specs.declared.Part.{Part}
use Rattle.formulas.specs.declared.Part.TheVariants.{Constant, Letter, Unary, Binary}
use Rattle.formulas.specs.Formula.{Formula, constant}
use Rattle.formulas.specs.Table.{formulas, formula_over, sound_part, sound}
use Rattle.formulas.proofs.Values.{formula_at, sound_at, both_true}
use Rattle.lassos.specs.Lasso.{after, later}
use Rattle.lassos.specs.Truth.{has, some, every, prefixed, infixed, truth}
use Rattle.lassos.proofs.Places.{after_lt, later_lt}
use Rattle.lassos.proofs.Sweeps.{step_back, swept, settled, swept_infix, swept_back, settled_agree, infix_settled, finally_until, globally_release}

-- the truth value at a place
abbrev pub lit : List ℕ → ℕ → Bool
lit work at = not (eqb (get_or work at 0) 0)

-- n values that stand from a place on
abbrev pub row : List ℕ → ℕ → ℕ → Bool
row work from i = lit work (from + i)

-- the n values from a place on are written, and nothing before them
pub record Filled (old new : List ℕ) (to n : ℕ) (v : ℕ → Bool) : Type 0 where
  pub kept : (j : ℕ) → j < to → get_or new j 0 ≡ get_or old j 0
  pub made : (i : ℕ) → i < n → lit new (to + i) ≡ v i

-- a row of n values
pub record Holds (bytes : List ℕ) (n : ℕ) (v : ℕ → Bool) : Type 0 where
  pub long : length bytes ≡ n
  pub each : (i : ℕ) → i < n → lit bytes i ≡ v i

-- a row in the making: of n values, those below i are there
pub record Rising (bytes : List ℕ) (n i : ℕ) (v : ℕ → Bool) : Type 0 where
  pub long : length bytes ≡ n
  pub below : (k : ℕ) → k < i → lit bytes k ≡ v k

-- the same from the other end: those from i on are there, and the others as they were
pub record Sinking (old bytes : List ℕ) (n i : ℕ) (v : ℕ → Bool) : Type 0 where
  pub long : length bytes ≡ n
  pub kept : (j : ℕ) → j < i → lit bytes j ≡ lit old j
  pub above : (k : ℕ) → i ≤ k → k < n → lit bytes k ≡ v k

lit_byte : (b : Bool) → not (eqb (bool_byte b) 0) ≡ b
lit_byte true = refl
lit_byte false = refl

pub lit_set : (bytes : List ℕ) (at : ℕ) (b : Bool) → at < length bytes → lit (set bytes at (bool_byte b)) at ≡ b
lit_set bytes at b l = ap (λ (x : ℕ). not (eqb x 0)) (get_or-set_same bytes at (bool_byte b) 0 l) ∙ lit_byte b

lit_beside : (bytes : List ℕ) (at j : ℕ) (b : Bool) → (j ≡ at → ⊥) → lit (set bytes at (bool_byte b)) j ≡ lit bytes j
lit_beside bytes at j b apart = ap (λ (x : ℕ). not (eqb x 0)) (get_or-set_other bytes at j (bool_byte b) 0 (omega (arith, apart)))

pub rising_more : (bytes : List ℕ) (n i : ℕ) (v : ℕ → Bool) (b : Bool) → i < n → Rising bytes n i v → b ≡ v i → Rising (set bytes i (bool_byte b)) n (i + 1) v
rising_more bytes n i v b l r e =
    let room : i < length bytes = rw r.long l in
    record {
      long = length-set bytes i (bool_byte b) ∙ r.long;
      below = λ k h.
          elim (dec_lt k i) [
            | yes c ↦ lit_beside bytes i k b (λ (z : k ≡ i). omega arith) ∙ r.below k c
            | no c ↦ let z : k ≡ i = omega arith in rw z (lit_set bytes i b room ∙ e)
          ];
    }

sinking_none : (bytes : List ℕ) (n : ℕ) (v : ℕ → Bool) → length bytes ≡ n → Sinking bytes bytes n n v
sinking_none bytes n v e = record { long = e; kept = λ j l. refl; above = λ k l h. absurd (omega arith) }

sinking_more : (old bytes : List ℕ) (n i : ℕ) (v : ℕ → Bool) (b : Bool) → i < n → Sinking old bytes n (i + 1) v → b ≡ v i → Sinking old (set bytes i (bool_byte b)) n i v
sinking_more old bytes n i v b l s e =
    let room : i < length bytes = rw s.long l in
    record {
      long = length-set bytes i (bool_byte b) ∙ s.long;
      kept = λ j h. lit_beside bytes i j b (λ (z : j ≡ i). omega arith) ∙ s.kept j (omega arith);
      above = λ k h m.
          elim (dec_lt i k) [
            | yes c ↦ lit_beside bytes i k b (λ (z : k ≡ i). omega arith) ∙ s.above k (omega arith) m
            | no c ↦ let z : k ≡ i = omega arith in rw z (lit_set bytes i b room ∙ e)
          ];
    }

-- Once round the loop: the value at position i is at hand.
pub record Lapping (dual value : Bool) (stay goal : List ℕ) (n u i : ℕ) : Type 0 where
  pub low : u ≤ i
  pub bound : i ≤ n
  pub at_hand : value ≡ swept dual (lit stay) (lit goal) n dual (n - i)

-- One sweep in place: the values from position i on are made, and the one at i is at hand.
pub record Sweeping (dual next value : Bool) (old bytes goal : List ℕ) (n i : ℕ) : Type 0 where
  pub bound : i ≤ n
  pub at_hand : value ≡ swept dual (lit old) (lit goal) n next (n - i)
  pub behind : Sinking old bytes n i (λ j. swept dual (lit old) (lit goal) n next (n - j))

pub sweeping_more : (dual next value new : Bool) (old bytes goal : List ℕ) (n i : ℕ) → 0 < i → new ≡ step_back dual (lit bytes (i - 1)) (lit goal (i - 1)) value → Sweeping dual next value old bytes goal n i → Sweeping dual next new old (set bytes (i - 1) (bool_byte new)) goal n (i - 1)
sweeping_more dual next value new old bytes goal n i p e s =
    let l : i ≤ n = s.bound in
    let z : i - 1 + 1 ≡ i = omega arith in
    let is : new ≡ swept dual (lit old) (lit goal) n next (n - (i - 1)) =
    e
    ∙ ap (λ (x : Bool). step_back dual x (lit goal (i - 1)) value) (s.behind.kept (i - 1) (omega arith))
    ∙ ap (step_back dual (lit old (i - 1)) (lit goal (i - 1))) s.at_hand
    ∙ sym (swept_back dual (lit old) (lit goal) n next i p l)
    in
    record {
      bound = omega arith;
      at_hand = is;
      behind = sinking_more old bytes n (i - 1) _ new (omega arith) (rw z s.behind) is;
    }

-- a row before the written one is as it was
pub row_kept : (old new : List ℕ) (to n from : ℕ) (v : ℕ → Bool) → Filled old new to n v → (i : ℕ) → from + i < to → row new from i ≡ row old from i
row_kept old new to n from v f i l = ap (λ (x : ℕ). not (eqb x 0)) (f.kept (from + i) l)

-- What an operator's row holds before the sweeps: the operator itself where it needs none; else when to stay.
abbrev pub prefix_start : Prefix → Bool → Bool → Bool
prefix_start Not here next = not here
prefix_start Next here next = next
prefix_start Finally here next = true
prefix_start Globally here next = false

abbrev pub infix_start : Infix → Bool → Bool → Bool
infix_start Implies left right = not left || right
infix_start Or left right = left || right
infix_start And left right = left && right
infix_start Until left right = left
infix_start Release left right = left

-- a started row of F, G, U or R, settled
pub settled_row : (dual : Bool) (start new goal : List ℕ) (n u : ℕ) (stay : ℕ → Bool) → u < n → Holds start n stay → Holds new n (settled dual (lit start) (lit goal) n u) → Holds new n (infixed n u (swept_infix dual) stay (lit goal))
settled_row dual start new goal n u stay h started sweeps =
    record {
      long = sweeps.long;
      each = λ i l.
          sweeps.each i l
          ∙ settled_agree dual (lit start) stay (lit goal) (lit goal) n u started.each (λ j b. refl) i
          ∙ sym (infix_settled dual n u h stay (lit goal) i l);
    }

pub holds_as : (bytes : List ℕ) (n : ℕ) (v w : ℕ → Bool) → ((i : ℕ) → i < n → v i ≡ w i) → Holds bytes n v → Holds bytes n w
holds_as bytes n v w e f = record { long = f.long; each = λ i l. f.each i l ∙ e i l }

-- F and G: the started row, settled
abbrev pub swept_prefix : Bool → Prefix
swept_prefix dual = cond dual Globally Finally

pub prefix_settled : (dual : Bool) (op : Prefix) (start new operand : List ℕ) (n u : ℕ) → op ≡ swept_prefix dual → u < n → Holds start n (λ i. prefix_start op (lit operand i) (lit operand (after n u i))) → Holds new n (settled dual (lit start) (lit operand) n u) → Holds new n (prefixed n u op (lit operand))
prefix_settled true op start new operand n u e h started sweeps =
    rw e
    (holds_as new n (infixed n u Release (λ i. false) (lit operand)) _ (λ i l. sym (globally_release n u (lit operand) i))
    (settled_row true start new operand n u (λ i. false) h (rw e at started) sweeps))
prefix_settled false op start new operand n u e h started sweeps =
    rw e
    (holds_as new n (infixed n u Until (λ i. true) (lit operand)) _ (λ i l. sym (finally_until n u (lit operand) i))
    (settled_row false start new operand n u (λ i. true) h (rw e at started) sweeps))

-- U and R
pub infix_settled_row : (dual : Bool) (op : Infix) (start new left right : List ℕ) (n u : ℕ) → op ≡ swept_infix dual → u < n → Holds start n (λ i. infix_start op (lit left i) (lit right i)) → Holds new n (settled dual (lit start) (lit right) n u) → Holds new n (infixed n u op (lit left) (lit right))
infix_settled_row true op start new left right n u e h started sweeps = rw e (settled_row true start new right n u (lit left) h (rw e at started) sweeps)
infix_settled_row false op start new left right n u e h started sweeps = rw e (settled_row false start new right n u (lit left) h (rw e at started) sweeps)

-- the rows of operands stand below
pub row_below : (f k n : ℕ) → f < k → f * n + n ≤ k * n
row_below f k n l =
    let m : suc f * n ≤ k * n = mul-le (suc f) n k n l (omega arith) in
    let z : suc f * n ≡ f * n + n = suc-mul f n in
    omega arith

-- an operator depends on its operands at the positions of the lasso alone
module _ (n u : ℕ) (h : u < n) where
  pub prefixed_agree : (op : Prefix) (f f' : ℕ → Bool) → ((i : ℕ) → i < n → f i ≡ f' i) → (i : ℕ) → i < n → prefixed n u op f i ≡ prefixed n u op f' i
  prefixed_agree Not f f' e i l = ap not (e i l)
  prefixed_agree Next f f' e i l = e (after n u i) (after_lt n u i h l)
  prefixed_agree Finally f f' e i l = ap (some n) (fun_ext (λ k. e (later n u i k) (later_lt n u i k h l)))
  prefixed_agree Globally f f' e i l = ap (every n) (fun_ext (λ k. e (later n u i k) (later_lt n u i k h l)))

  pub infixed_agree : (op : Infix) (f f' g g' : ℕ → Bool) → ((i : ℕ) → i < n → f i ≡ f' i) → ((i : ℕ) → i < n → g i ≡ g' i) → (i : ℕ) → i < n → infixed n u op f g i ≡ infixed n u op f' g' i
  infixed_agree Implies f f' g g' a b i l = let x = a i l in let y = b i l in cc
  infixed_agree Or f f' g g' a b i l = let x = a i l in let y = b i l in cc
  infixed_agree And f f' g g' a b i l = let x = a i l in let y = b i l in cc
  infixed_agree Until f f' g g' a b i l =
      ap (some n)
      (fun_ext
      (λ k.
      let x : g (later n u i k) ≡ g' (later n u i k) = b (later n u i k) (later_lt n u i k h l) in
      let y : every k (λ j. f (later n u i j)) ≡ every k (λ j. f' (later n u i j)) = ap (every k) (fun_ext (λ j. a (later n u i j) (later_lt n u i j h l))) in
      cc))
  infixed_agree Release f f' g g' a b i l =
      ap (every n)
      (fun_ext
      (λ k.
      let x : g (later n u i k) ≡ g' (later n u i k) = b (later n u i k) (later_lt n u i k h l) in
      let y : some k (λ j. f (later n u i j)) ≡ some k (λ j. f' (later n u i j)) = ap (some k) (fun_ext (λ j. a (later n u i j) (later_lt n u i j h l))) in
      cc))

-- the value of a part at a position, from the rows of its operands
abbrev pub part_value : List ℕ → List ℕ → ℕ → Part → ℕ → Bool
part_value work labels u (Constant b) i = b
part_value work labels u (Letter a) i = has (get_or labels i 0) a
part_value work labels u (Unary op f location) i = prefixed (length labels) u op (row work (f * length labels)) i
part_value work labels u (Binary op f g location) i = infixed (length labels) u op (row work (f * length labels)) (row work (g * length labels)) i

-- the first k rows hold the truth of the first k parts
pub record Rows (ps : List Part) (labels : List ℕ) (u : ℕ) (work : List ℕ) (k : ℕ) : Type 0 where
  pub at : (j : ℕ) → j < k → (i : ℕ) → i < length labels → row work (j * length labels) i ≡ truth (get_or (formulas ps) j (constant false)) labels u i

part_truth : (ps : List Part) (labels work : List ℕ) (u k : ℕ) → u < length labels → Rows ps labels u work k → (p : Part) → sound_part k p ≡ true → (i : ℕ) → i < length labels → part_value work labels u p i ≡ truth (formula_over (formulas ps) p) labels u i
part_truth ps labels work u k h rows (Constant b) s i l = refl
part_truth ps labels work u k h rows (Letter a) s i l = refl
part_truth ps labels work u k h rows (Unary op f location) s i l =
    prefixed_agree (length labels) u h op (row work (f * length labels)) (truth (get_or (formulas ps) f (constant false)) labels u) (rows.at f (ltb-true f k s)) i l
part_truth ps labels work u k h rows (Binary op f g location) s i l =
    let parts = both_true (ltb f k) (ltb g k) s in
    infixed_agree (length labels) u h op (row work (f * length labels)) (truth (get_or (formulas ps) f (constant false)) labels u) (row work (g * length labels)) (truth (get_or (formulas ps) g (constant false)) labels u) (rows.at f (ltb-true f k parts.0)) (rows.at g (ltb-true g k parts.1)) i l

-- the rows of a table cut at a row: those below it, and from it on
module _ (work below rest : List ℕ) (cut : work ≡ below ++ rest) where
  below_is : (from i : ℕ) → from + i < length below → row below from i ≡ row work from i
  below_is from i l = ap (λ (x : ℕ). not (eqb x 0)) (sym (rw cut (get_or-append below rest 0 (from + i) l)))

  -- a row put there
  pub filled_row : (bytes tail : List ℕ) (to n : ℕ) (v w : ℕ → Bool) → length below ≡ to → Holds bytes n v → ((i : ℕ) → i < n → v i ≡ w i) → Filled work (below ++ (bytes ++ tail)) to n w
  filled_row bytes tail to n v w long h e =
      record {
        kept = λ j l.
            let l' : j < length below = omega arith in
            get_or-append below (bytes ++ tail) 0 j l' ∙ sym (rw cut (get_or-append below rest 0 j l'));
        made = λ i l.
            ap (λ (x : ℕ). not (eqb x 0))
            (rw (← long) (get_or-append-add below (bytes ++ tail) i 0 ∙ get_or-append bytes tail 0 i (rw h.long l)))
            ∙ h.each i l
            ∙ e i l;
      }

  -- an operator's values, from rows of its operands below
  pub prefix_value : (operand : List ℕ) (m n u f : ℕ) (op : Prefix) → n ≡ m → u < n → f * n + n ≤ length below → ((i : ℕ) → i < n → lit operand i ≡ row below (f * n) i) → (i : ℕ) → i < n → prefixed n u op (lit operand) i ≡ prefixed m u op (row work (f * m)) i
  prefix_value operand m n u f op same h room e i l =
      subst (λ (k : ℕ). prefixed n u op (lit operand) i ≡ prefixed k u op (row work (f * k)) i) same
      (prefixed_agree n u h op (lit operand) (row work (f * n)) (λ j b. e j b ∙ below_is (f * n) j (omega arith)) i l)

  pub infix_value : (left right : List ℕ) (m n u f g : ℕ) (op : Infix) → n ≡ m → u < n → f * n + n ≤ length below → g * n + n ≤ length below → ((i : ℕ) → i < n → lit left i ≡ row below (f * n) i) → ((i : ℕ) → i < n → lit right i ≡ row below (g * n) i) → (i : ℕ) → i < n → infixed n u op (lit left) (lit right) i ≡ infixed m u op (row work (f * m)) (row work (g * m)) i
  infix_value left right m n u f g op same h room room' e e' i l =
      subst (λ (k : ℕ). infixed n u op (lit left) (lit right) i ≡ infixed k u op (row work (f * k)) (row work (g * k)) i) same
      (infixed_agree n u h op (lit left) (row work (f * n)) (lit right) (row work (g * n)) (λ j b. e j b ∙ below_is (f * n) j (omega arith)) (λ j b. e' j b ∙ below_is (g * n) j (omega arith)) i l)

-- operands of a sound part
pub sound_unary : (k : ℕ) (p : Part) (op : Prefix) (f location : ℕ) → p ≡ Unary op f location → sound_part k p ≡ true → f < k
sound_unary k p op f location e s = ltb-true f k (rw e at s)

pub sound_binary : (k : ℕ) (p : Part) (op : Infix) (f g location : ℕ) → p ≡ Binary op f g location → sound_part k p ≡ true → (f < k) × (g < k)
sound_binary k p op f g location e s =
    let parts = both_true (ltb f k) (ltb g k) (rw e at s) in
    (ltb-true f k parts.0, ltb-true g k parts.1)

pub rows_more : (ps : List Part) (labels old new : List ℕ) (u k n : ℕ) (e : Part) → n ≡ length labels → u < n → sound ps ≡ true → k < length ps → Rows ps labels u old k → Filled old new (k * n) n (part_value old labels u (get_or ps k e)) → Rows ps labels u new (k + 1)
rows_more ps labels old new u k n e same h s l rows filled =
    let h' : u < length labels = omega arith in
    let f : Filled old new (k * length labels) (length labels) (part_value old labels u (get_or ps k e)) = rw same at filled in
    record {
      at = λ j b i c.
          elim (dec_lt j k) [
            | yes d ↦
                let m = row_below j k (length labels) d in
                row_kept old new (k * length labels) (length labels) (j * length labels) _ f i (omega arith) ∙ rows.at j d i c
            | no d ↦
                let z : j ≡ k = omega arith in
                rw z
                (f.made i c
                ∙ part_truth ps labels old u k h' rows (get_or ps k e) (sound_at ps k e s l) i c
                ∙ ap (λ (g : Formula). truth g labels u i) (sym (formula_at ps k e s l)))
          ];
    }
