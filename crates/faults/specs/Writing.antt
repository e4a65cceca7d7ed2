-- Writing into a lent list. The bytes stand in front, what is behind them is unchanged, and the answer is their number.
-- A list that is too short is refused whole: nothing is written.
use Rattle.std.specs.Prelude.{ℕ, cond, List, ◌++◌, length, drop, Ok, Err, Result, nat_lt}
use Rattle.faults.specs.declared.Cause.TheVariants.{ListTooShort}
use Rattle.faults.specs.declared.Layer.{Layer}
use Rattle.faults.specs.declared.Fault.{Fault}

-- the refusal of a lent list: which one is too short, from 1, and by which layer
abbrev pub too_short : ℕ → Layer → Fault
too_short place layer = record { cause = ListTooShort; place = place; layer = layer }

abbrev pub put_answer : Layer → List ℕ → List ℕ → Result ℕ Fault
put_answer layer bytes out = cond (nat_lt (length out) (length bytes)) (Err (too_short 1 layer)) (Ok (length bytes))

abbrev pub put_list : List ℕ → List ℕ → List ℕ
put_list bytes out = cond (nat_lt (length out) (length bytes)) out (bytes ++ drop (length bytes) out)
