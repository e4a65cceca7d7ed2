use Rattle.rules.proofs.Theorems.{one_formula_law}
use Rattle.rules.proofs.laws.one_formula.Goals as goal

pub returns : goal.returns
returns c = one_formula_law
