use Rattle.console.proofs.Unique.{one_answer}
use Rattle.console.proofs.laws.one_answer.Goals as goal

pub returns : goal.returns
returns c = one_answer
