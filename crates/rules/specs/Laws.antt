-- What holds of rule texts as such, whoever reads them.
use Rattle.std.specs.Prelude.{◌≡◌, ℕ, ◌<◌, ◌⊎◌, List, [], length, Ok, Err, codes, Result}
use Rattle.faults.specs.declared.Cause.TheVariants.{UnexpectedByte, TextTooShort, TooManyOperators}
use Rattle.faults.specs.declared.Fault.{Fault}
use Rattle.formulas.specs.declared.Infix.TheVariants.{And, Until}
use Rattle.formulas.specs.Formula.{Formula, letter, binary}
use Rattle.formulas.specs.Grammar.{Reads}
use Rattle.formulas.specs.Written.{written}
use Rattle.rules.specs.declared.rule.Rule.{Rule}
use Rattle.rules.specs.Refusal.{rule_fault, Refused, Accepted, Answered}
use Rattle.rules.specs.Rules.{formula}

-- a text has at most one formula
abbrev pub OneFormula : Type 0
OneFormula = (text : List ℕ) (f g : Formula) → Reads text f → Reads text g → f ≡ g

-- two answers that agree: the same formula, or the same refusal
abbrev pub SameAnswer : Result Rule Fault → Result Rule Fault → Type 0
SameAnswer (Ok a) (Ok b) = formula a ≡ formula b
SameAnswer (Ok a) (Err f) = ⊥
SameAnswer (Err f) (Ok b) = ⊥
SameAnswer (Err f) (Err g) = f ≡ g

-- for each text there is one right answer
abbrev pub OneAnswer : Type 0
OneAnswer = (text : List ℕ) (r s : Result Rule Fault) → Answered text r → Answered text s → SameAnswer r s

-- the written text of a formula that has a text is a text of it, and every other is longer
abbrev pub Shortest : Type 0
Shortest = (text : List ℕ) (f : Formula) → Reads text f → Reads (written f) f × ((text ≡ written f) ⊎ (length (written f) < length text))

-- worked examples
pub record Worked : Type 0 where
  pub groups_right : Reads (codes "aUbUc") (binary Until (letter 0) (binary Until (letter 1) (letter 2)))
  pub same_with_brackets : Reads (codes "aU(bUc)") (binary Until (letter 0) (binary Until (letter 1) (letter 2)))
  pub brackets_read : Reads (codes "((a))&(b&c)") (binary And (letter 0) (binary And (letter 1) (letter 2)))
  pub brackets_written : written (binary And (letter 0) (binary And (letter 1) (letter 2))) ≡ codes "a&(b&c)"
  pub empty : Refused [] (rule_fault TextTooShort 0)
  pub gap : Refused (codes "a b") (rule_fault UnexpectedByte 2)
  pub nine : (f : Formula) × Accepted (codes "GGGGGGGGGa") f
  pub ten : Refused (codes "GGGGGGGGGGa") (rule_fault TooManyOperators 9)
