-- What holds of answers as such.
use Rattle.std.specs.Prelude.{◌≡◌, ℕ, List}
use Rattle.tables.specs.Table.{Table}
use Rattle.printing.specs.declared.answer.Answer.{Answer}
use Rattle.printing.specs.declared.answer.Answer.TheVariants.{Holds, Refused, Broken}
use Rattle.console.specs.Answers.{Right}

-- the same answer, but for the lasso that breaks a rule
abbrev pub Alike : Answer → Answer → Type 0
Alike Holds Holds = Unit {0}
Alike Holds (Refused g) = ⊥
Alike Holds (Broken v later) = ⊥
Alike (Refused f) Holds = ⊥
Alike (Refused f) (Refused g) = f ≡ g
Alike (Refused f) (Broken v later) = ⊥
Alike (Broken u entries) Holds = ⊥
Alike (Broken u entries) (Refused g) = ⊥
Alike (Broken u entries) (Broken v later) = Unit {0}

-- The statement that a line has one right answer, but for that lasso.
abbrev pub OneAnswer : Type 0
OneAnswer = (t : Table) (line : List ℕ) (x y : Answer) → Right t line x → Right t line y → Alike x y
