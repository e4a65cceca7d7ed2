-- The text of an answer: lines of words with a blank (byte 32) between, each ended by a newline (byte 10). Numbers are decimal.
use Rattle.std.specs.Prelude.{ℕ, ◌-◌, List, [], ◌∷◌, ◌++◌, length, decimal}
use Rattle.std.specs.List.{flat_map}
use Rattle.faults.specs.Numbers.{cause_number}
use Rattle.unfolding.specs.declared.Press.{Press}
use Rattle.printing.specs.declared.answer.Answer.{Answer}
use Rattle.printing.specs.declared.answer.Answer.TheVariants.{Holds, Refused, Broken}

-- a letter alone
abbrev pub letter_line : ℕ → List ℕ
letter_line letter = letter ∷ 10 ∷ []

-- a letter and two numbers
abbrev pub number_line : ℕ → ℕ → ℕ → List ℕ
number_line letter m n = letter ∷ 32 ∷ (decimal m ++ (32 ∷ (decimal n ++ (10 ∷ []))))

-- `H`, or `R` with the cause and the place, or `B` with the lengths of the lead-in and of the loop
abbrev pub first_line : Answer → List ℕ
first_line Holds = letter_line 72
first_line (Refused fault) = number_line 82 (cause_number fault.cause) fault.place
first_line (Broken lead_in entries) = number_line 66 lead_in (length entries.now - lead_in)

-- the state, and the name of the event
abbrev pub entry_line : (ℕ → List ℕ) → Press → List ℕ
entry_line names entry = decimal entry.state ++ (32 ∷ (names entry.event ++ (10 ∷ [])))

abbrev pub entries_of : Answer → List Press
entries_of Holds = []
entries_of (Refused fault) = []
entries_of (Broken lead_in entries) = entries.now

-- the first line, and then a line for each entry
abbrev pub text : (ℕ → List ℕ) → Answer → List ℕ
text names answer = first_line answer ++ flat_map (entry_line names) (entries_of answer)
