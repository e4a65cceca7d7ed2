use Rattle.rules.proofs.Theorems.{one_answer_law}
use Rattle.rules.proofs.laws.one_answer.Goals as goal

pub returns : goal.returns
returns c = one_answer_law
