use Rattle.std.proofs.Common.{◌∙◌, arith}
use Rattle.denials.proofs.Telling.{spared_told}
use Rattle.denials.proofs.denial.Denial.spares.Goals as goal

pub returns-then-contains : goal.returns-then-contains
returns-then-contains c =
    c.carries.ensures ∙ spared_told c.args.self.now c.args.label c.args.owed c.args.next c.args.location c.only.result (omega arith) c.only.ensures c.if-contains.ensures
