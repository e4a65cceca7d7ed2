-- What the judge answers.
use Rattle.std.specs.Prelude.{ℕ, ◌*◌, min, Bool, cond, List, length, Ok, Err, Result, nat_le, nat_lt}
use Rattle.faults.specs.declared.Cause.TheVariants.{BadLeadIn, ListTooShort}
use Rattle.faults.specs.declared.Layer.TheVariants.{Check}
use Rattle.faults.specs.declared.Fault.{Fault}
use Rattle.formulas.specs.Formula.{Formula}
use Rattle.lassos.specs.Truth.{truth}

-- n labels and a lead-in that does not lie below n, or more than 4,096 labels; the place is n, at most 65,535
abbrev pub bad_lead_in : ℕ → Fault
bad_lead_in n = record { cause = BadLeadIn; place = min n 65535; layer = Check }

-- too little memory lent: the first and only list
abbrev pub short_work : Fault
short_work = record { cause = ListTooShort; place = 1; layer = Check }

-- the given answer, unless n labels, a lead-in or the bytes lent are refused
abbrev pub admitted : {X : Type 0} → ℕ → ℕ → ℕ → X → Result X Fault
admitted n u lent answer =
    cond (nat_lt u n) (cond (nat_le n 4096) (cond (nat_le (128 * n) lent) (Ok answer) (Err short_work)) (Err (bad_lead_in n))) (Err (bad_lead_in n))

-- a formula at position 0 of the lasso
abbrev pub judged : Formula → List ℕ → ℕ → ℕ → Result Bool Fault
judged f labels u lent = admitted (length labels) u lent (truth f labels u 0)
