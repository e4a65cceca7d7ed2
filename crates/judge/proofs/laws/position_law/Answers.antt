use Rattle.lassos.proofs.Laws.{position_law}
use Rattle.judge.proofs.laws.position_law.Goals as goal

pub returns : goal.returns
returns c = position_law
