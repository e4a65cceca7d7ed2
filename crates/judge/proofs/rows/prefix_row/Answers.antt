use Rattle.std.proofs.Common.{true, false}
use Rattle.lassos.proofs.Rows.{prefix_settled}
use Rattle.judge.proofs.rows.prefix_row.Goals as goal

pub returns-in-Finally : goal.returns-in-Finally
returns-in-Finally c = prefix_settled false c.args.op _ _ _ _ _ c.in-Finally.is c.args.shape.inside c.start_prefix.ensures c.settle.ensures

pub returns-in-Globally : goal.returns-in-Globally
returns-in-Globally c = prefix_settled true c.args.op _ _ _ _ _ c.in-Globally.is c.args.shape.inside c.start_prefix.ensures c.settle-in-Globally.ensures
