-- What print answers, and what the list holds afterwards: a fault of the answer refuses it and nothing is written; else the text is put into the
-- list, all of it or, where the list is too short, nothing.
use Rattle.std.specs.Prelude.{ℕ, List, Some, None, Err, Option, Result}
use Rattle.faults.specs.Writing.{put_answer, put_list}
use Rattle.faults.specs.declared.Fault.{Fault}
use Rattle.faults.specs.declared.Layer.TheVariants.{Check}

abbrev pub print_answer : Option Fault → List ℕ → List ℕ → Result ℕ Fault
print_answer (Some fault) text out = Err fault
print_answer None text out = put_answer Check text out

abbrev pub print_list : Option Fault → List ℕ → List ℕ → List ℕ
print_list (Some fault) text out = out
print_list None text out = put_list text out
