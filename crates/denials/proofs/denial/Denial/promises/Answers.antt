use Rattle.denials.proofs.Telling.{promises_told}
use Rattle.denials.proofs.denial.Denial.promises.Goals as goal

pub returns : goal.returns
returns c = promises_told c.args.self.now
