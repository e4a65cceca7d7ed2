-- How a rule text is refused.
use Rattle.std.specs.Prelude.{◌≡◌, ℕ, suc, ◌<◌, ◌≤◌, List, length, take, Ok, Err, Result}
use Rattle.faults.specs.declared.Cause.{Cause}
use Rattle.faults.specs.declared.Cause.TheVariants.{TextTooLong, UnexpectedByte, TextTooShort, TooManyOperators}
use Rattle.faults.specs.declared.Layer.TheVariants.{Rule}
use Rattle.faults.specs.declared.Fault.{Fault}
use Rattle.formulas.specs.Formula.{Formula}
use Rattle.formulas.specs.Grammar.{Reads, Begins, temporals}
use Rattle.rules.specs.declared.rule.Rule.{Rule as RuleOf}
use Rattle.rules.specs.Rules.{formula}

abbrev pub rule_fault : Cause → ℕ → Fault
rule_fault cause place = record { cause = cause; place = place; layer = Rule }

-- The one refusal of a text that is no rule, or is beyond the limits of 128 bytes and nine temporal operators.
-- The length comes first. Then the lowest place decides: of the first byte with which the text begins no rule, and of
-- the tenth temporal operator; on one byte the former. A text that is no rule, and has neither, ends too early.
pub data Refused (text : List ℕ) : Fault → Type 0 where
  too_long : 128 < length text → Refused text (rule_fault TextTooLong 128)
  unexpected : (place : ℕ) → length text ≤ 128 → place < length text → temporals (take place text) ≤ 9 → Begins (take place text) → (Begins (take (suc place) text) → ⊥) → Refused text (rule_fault UnexpectedByte place)
  too_many : (place : ℕ) → length text ≤ 128 → place < length text → temporals (take place text) ≡ 9 → temporals (take (suc place) text) ≡ 10 → Begins (take (suc place) text) → Refused text (rule_fault TooManyOperators place)
  too_short : length text ≤ 128 → temporals text ≤ 9 → Begins text → ((f : Formula) → Reads text f → ⊥) → Refused text (rule_fault TextTooShort (length text))

-- a text that is a rule, within the limits
pub record Accepted (text : List ℕ) (f : Formula) : Type 0 where
  pub short : length text ≤ 128
  pub few : temporals text ≤ 9
  pub reads : Reads text f

-- what reading a text answers: the rule whose formula the grammar gives, or the one refusal
abbrev pub Answered : List ℕ → Result RuleOf Fault → Type 0
Answered text (Ok r) = Accepted text (formula r)
Answered text (Err f) = Refused text f
