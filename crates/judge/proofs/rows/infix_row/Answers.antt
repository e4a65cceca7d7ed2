use Rattle.std.proofs.Common.{true, false}
use Rattle.lassos.proofs.Rows.{infix_settled_row}
use Rattle.judge.proofs.rows.infix_row.Goals as goal

pub returns-in-Until : goal.returns-in-Until
returns-in-Until c =
    infix_settled_row false c.args.op _ _ _ _ _ _ c.in-Until.is c.args.shape.inside (rw c.requires.row at c.start_infix.ensures) c.settle.ensures

pub returns-in-Release : goal.returns-in-Release
returns-in-Release c =
    infix_settled_row true c.args.op _ _ _ _ _ _ c.in-Release.is c.args.shape.inside (rw c.requires.row at c.start_infix.ensures) c.settle-in-Release.ensures
