-- Which answers are not printed: a lead-in that leaves no loop, and then entries that do not exist in the dialogue.
use Rattle.std.specs.Prelude.{ℕ, suc, Bool, cond, ◌&&◌, List, [], ◌∷◌, length, Some, None, Option, nat_lt}
use Rattle.faults.specs.declared.Fault.{Fault}
use Rattle.judge.specs.Answer.{bad_lead_in}
use Rattle.faults.specs.declared.Cause.TheVariants.{NoSuchArgument}
use Rattle.faults.specs.declared.Layer.TheVariants.{Check}
use Rattle.tables.specs.Table.{Table}
use Rattle.unfolding.specs.declared.Press.{Press}
use Rattle.printing.specs.declared.answer.Answer.{Answer}
use Rattle.printing.specs.declared.answer.Answer.TheVariants.{Holds, Refused, Broken}

-- an entry exists if its state and its event do
abbrev pub exists : Table → Press → Bool
exists t entry = nat_lt entry.state t.states && nat_lt entry.event t.events

-- the number, from 0, of the first entry that does not exist; where all exist, how many there are
abbrev pub first_absent : Table → List Press → ℕ
first_absent t [] = 0
first_absent t (entry ∷ entries) = cond (exists t entry) (suc (first_absent t entries)) 0

abbrev pub no_such_entry : ℕ → Fault
no_such_entry number = record { cause = NoSuchArgument; place = number; layer = Check }

abbrev pub fault_of_entries : Table → ℕ → List Press → Option Fault
fault_of_entries t lead_in entries =
    cond (nat_lt lead_in (length entries)) (cond (nat_lt (first_absent t entries) (length entries)) (Some (no_such_entry (first_absent t entries))) None) (Some (bad_lead_in (length entries)))

abbrev pub fault_of : Table → Answer → Option Fault
fault_of t Holds = None
fault_of t (Refused fault) = None
fault_of t (Broken lead_in entries) = fault_of_entries t lead_in entries.now
