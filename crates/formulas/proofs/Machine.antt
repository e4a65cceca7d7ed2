-- A machine that reads a text byte by byte, with a stack of what is still open. The grammar does not speak of it;
-- `Complete` and `Sound` show that it reads just the texts of the grammar.
use Rattle.std.proofs.Common.{◌≡◌, ℕ, cond, ltb, List, [], ◌∷◌, ◌++◌, refl}
use Rattle.formulas.specs.declared.Prefix.{Prefix}
use Rattle.formulas.specs.declared.Infix.{Infix}
use Rattle.formulas.specs.declared.Infix.TheVariants.{Implies}
use Rattle.formulas.specs.declared.Sign.{Sign}
use Rattle.formulas.specs.declared.Sign.TheVariants.{Blank, Open, Close, Dash, Head, Constant, Letter, Before, Between, Unknown}
use Rattle.formulas.specs.Formula.{Formula, constant, letter, unary, binary}
use Rattle.formulas.specs.Sign.{sign}
use Rattle.formulas.specs.Grammar.{level, right}

-- what waits for the operand that comes next: a bracket to be closed, a prefix operator, or an infix operator with its left operand
pub data Frame : Type 0 where
  bracket : Frame
  waiting : Prefix → Frame
  halfway : Infix → Formula → Frame

-- the level at which a frame takes its operand; 0 for a bracket, which only its closing sign ends
abbrev pub bound : Frame → ℕ
bound bracket = 0
bound (waiting op) = 5
bound (halfway op f) = right op

abbrev pub bound_top : List Frame → ℕ
bound_top [] = 0
bound_top (x ∷ K) = bound x

abbrev pub apply : Frame → Formula → Formula
apply bracket f = f
apply (waiting op) f = unary op f
apply (halfway op g) f = binary op g f

-- the frames on top that bind tighter than c take their operand
abbrev pub reduce : ℕ → List Frame → Formula → List Frame × Formula
reduce c [] f = ([], f)
reduce c (x ∷ K) f = cond (ltb c (bound x)) (reduce c K (apply x f)) (x ∷ K, f)

-- an operand must come; an operand was read; after the first byte of ->; no rule begins so
pub data State : Type 0 where
  wanting : List Frame → State
  having : List Frame → Formula → State
  dashed : List Frame → Formula → State
  failed : State

abbrev pub push : Infix → List Frame × Formula → State
push op h = wanting (halfway op h.1 ∷ h.0)

abbrev pub close_top : List Frame → Formula → State
close_top [] f = failed
close_top (bracket ∷ K) f = having K f
close_top (waiting op ∷ K) f = failed
close_top (halfway op g ∷ K) f = failed

abbrev pub close : List Frame × Formula → State
close h = close_top h.0 h.1

abbrev pub step_wanting : List Frame → Sign → State
step_wanting K Blank = wanting K
step_wanting K Open = wanting (bracket ∷ K)
step_wanting K Close = failed
step_wanting K Dash = failed
step_wanting K Head = failed
step_wanting K (Constant b) = having K (constant b)
step_wanting K (Letter a) = having K (letter a)
step_wanting K (Before op) = wanting (waiting op ∷ K)
step_wanting K (Between op) = failed
step_wanting K Unknown = failed

abbrev pub step_having : List Frame → Formula → Sign → State
step_having K f Blank = having K f
step_having K f Open = failed
step_having K f Close = close (reduce 0 K f)
step_having K f Dash = dashed K f
step_having K f Head = failed
step_having K f (Constant b) = failed
step_having K f (Letter a) = failed
step_having K f (Before op) = failed
step_having K f (Between op) = push op (reduce (level op) K f)
step_having K f Unknown = failed

abbrev pub step_dashed : List Frame → Formula → Sign → State
step_dashed K f Blank = failed
step_dashed K f Open = failed
step_dashed K f Close = failed
step_dashed K f Dash = failed
step_dashed K f Head = push Implies (reduce 1 K f)
step_dashed K f (Constant b) = failed
step_dashed K f (Letter a) = failed
step_dashed K f (Before op) = failed
step_dashed K f (Between op) = failed
step_dashed K f Unknown = failed

abbrev pub step : State → Sign → State
step (wanting K) s = step_wanting K s
step (having K f) s = step_having K f s
step (dashed K f) s = step_dashed K f s
step failed s = failed

abbrev pub run : State → List ℕ → State
run st [] = st
run st (b ∷ text) = run (step st (sign b)) text

pub run_append : (st : State) (s t : List ℕ) → run st (s ++ t) ≡ run (run st s) t
run_append st [] t = refl
run_append st (b ∷ s) t = run_append (step st (sign b)) s t

pub run_failed : (s : List ℕ) → run failed s ≡ failed
run_failed [] = refl
run_failed (b ∷ s) = run_failed s
