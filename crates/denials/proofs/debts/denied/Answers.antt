use Rattle.denials.proofs.Seeking.{denied_whole}
use Rattle.denials.proofs.debts.denied.Goals as goal

pub returns-clause-is : goal.returns-clause-is
returns-clause-is c = denied_whole c.args.rule.now c.parts.result.now c.parts.ensures.value
