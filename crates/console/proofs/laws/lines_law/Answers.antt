use Rattle.console.proofs.Splitting.{splits}
use Rattle.console.proofs.laws.lines_law.Goals as goal

pub returns : goal.returns
returns c = splits
