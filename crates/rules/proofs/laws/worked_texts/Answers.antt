use Rattle.rules.proofs.Theorems.{worked_law}
use Rattle.rules.proofs.laws.worked_texts.Goals as goal

pub returns : goal.returns
returns c = worked_law
