-- What presscheck prints for a file and an input.
use Rattle.std.specs.Prelude.{◌≡◌, ℕ, ◌+◌, ◌*◌, ◌<◌, ◌≤◌, List, [], ◌∷◌, ◌++◌, length, take, Some, None}
use Rattle.std.specs.Borrow.{Bor}
use Rattle.faults.specs.declared.Fault.{Fault}
use Rattle.formulas.specs.Formula.{Formula}
use Rattle.rules.specs.Refusal as reading
use Rattle.tables.specs.Table.{Table}
use Rattle.loops.specs.Answer.{Startless, no_start}
use Rattle.tables.specs.Files.{fault_of, file_table, file_name}
use Rattle.tables.specs.Layers.{barred}
use Rattle.search.specs.Lists.{too_short}
use Rattle.unfolding.specs.declared.Press.{Press}
use Rattle.unfolding.specs.Breaks.{Breaks}
use Rattle.unfolding.specs.Presses.{entries_in}
use Rattle.unfolding.specs.Nodes.{size}
use Rattle.unfolding.specs.Pushed.{locations}
use Rattle.printing.specs.declared.answer.Answer.{Answer}
use Rattle.printing.specs.declared.answer.Answer.TheVariants.{Holds, Refused, Broken}
use Rattle.printing.specs.Text.{text}
use Rattle.checker.specs.Answer.{NeverBroken, too_many_nodes}
use Rattle.console.specs.Lines.{lines_of}

-- The answer to a line, checked against a table in lists that serve 512 nodes; the first case that applies decides. Only which lasso breaks a rule
-- is left open.
pub data Right (t : Table) (line : List ℕ) : Answer → Type 0 where
  -- the line is refused as a rule text
  misread : (fault : Fault) → reading.Refused line fault → Right t line (Refused fault)
  -- more nodes than any check serves
  too_large : (f : Formula) → reading.Accepted line f → 262144 < size t f → Right t line (Refused (too_many_nodes (locations f)))
  -- more nodes than there are marks
  unserved : (f : Formula) → reading.Accepted line f → size t f ≤ 262144 → 512 < size t f → Right t line (Refused (too_short 1))
  -- no state is a start
  startless : (f : Formula) → reading.Accepted line f → size t f ≤ 512 → Startless t → Right t line (Refused no_start)
  -- no lasso breaks the rule
  holds : (f : Formula) → reading.Accepted line f → size t f ≤ 512 → (Startless t → ⊥) → NeverBroken t f → Right t line Holds
  -- these entries with lead-in u break it
  broken : (f : Formula) (u : ℕ) (entries : Bor (List Press)) → reading.Accepted line f → size t f ≤ 512 → (Startless t → ⊥) → Breaks t f (entries_in entries.now) u
      → length entries.now ≤ (locations f + 1) * size t f → Right t line (Broken u entries)

-- the text of a right answer to the line, with these names of events
pub record AnswersLine (t : Table) (names : ℕ → List ℕ) (line out : List ℕ) : Type 0 where
  pub answer : Answer
  pub right : Right t line answer
  pub printed : out ≡ text names answer

-- such texts, one behind the other in the order of the lines
pub data Answers (t : Table) (names : ℕ → List ℕ) : List (List ℕ) → List ℕ → Type 0 where
  no_lines : Answers t names [] []
  line_by_line : (line : List ℕ) (lines : List (List ℕ)) (first rest : List ℕ) → AnswersLine t names line first → Answers t names lines rest → Answers t names (line ∷ lines) (first ++ rest)

-- the dialogue of a file, with event 0 barred, and the names of its events
abbrev pub dialogue_of : List ℕ → Table
dialogue_of file = barred 0 (file_table file)

abbrev pub names_of : List ℕ → ℕ → List ℕ
names_of file = file_name (file_table file).events

-- What is printed: of a bad file its fault alone, whatever the input; else the answers to the lines of the input.
pub data Prints (file input out : List ℕ) : Type 0 where
  bad_file : (fault : Fault) → fault_of file ≡ Some fault → out ≡ text (names_of file) (Refused fault) → Prints file input out
  good_file : fault_of file ≡ None → Answers (dialogue_of file) (names_of file) (lines_of input) out → Prints file input out

-- only the first 4,096 bytes of each count
abbrev pub Responds : List ℕ → List ℕ → List ℕ → Type 0
Responds file input out = Prints (take 4096 file) (take 4096 input) out
