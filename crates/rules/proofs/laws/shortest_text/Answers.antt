use Rattle.rules.proofs.Theorems.{shortest_law}
use Rattle.rules.proofs.laws.shortest_text.Goals as goal

pub returns : goal.returns
returns c = shortest_law
