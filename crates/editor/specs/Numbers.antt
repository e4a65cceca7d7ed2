-- The numbers that a C caller gets.
use Rattle.std.specs.Prelude.{◌≡◌, ℕ, ◌+◌, ◌*◌, Bool, true, false, ◌⊎◌, List, Ok, Err, Result}
use Rattle.faults.specs.declared.Fault.{Fault}
use Rattle.faults.specs.Numbers.{cause_number}
use Rattle.formulas.specs.Formula.{Formula}
use Rattle.judge.specs.Answer.{judged}
use Rattle.lassos.specs.Bytes.{byte_labels}
use Rattle.rules.specs.Refusal.{Accepted, Refused}

-- a refusal as one number: the cause times 65,536, plus the place
abbrev pub fault_number : Fault → ℕ
fault_number f = cause_number f.cause * 65536 + f.place

-- 1 for a text that is a rule, else the number of its refusal
abbrev pub ReadNumber : List ℕ → ℕ → Type 0
ReadNumber text n = ((f : Formula) × Accepted text f × (n ≡ 1)) ⊎ ((x : Fault) × Refused text x × (n ≡ fault_number x))

-- what judging by a text answers: the text's refusal, or what the judge answers for its formula
abbrev pub JudgedText : List ℕ → List ℕ → ℕ → ℕ → Result Bool Fault → Type 0
JudgedText text labels u lent r =
    ((x : Fault) × Refused text x × (r ≡ Err x)) ⊎ ((f : Formula) × Accepted text f × (r ≡ judged f (byte_labels labels) u lent))

-- 1 for true, 0 for false, else the number of the refusal
abbrev pub verdict_number : Result Bool Fault → ℕ
verdict_number (Ok true) = 1
verdict_number (Ok false) = 0
verdict_number (Err x) = fault_number x

abbrev pub JudgeNumber : List ℕ → List ℕ → ℕ → ℕ → ℕ → Type 0
JudgeNumber text labels u lent n = (r : Result Bool Fault) × JudgedText text labels u lent r × (n ≡ verdict_number r)
