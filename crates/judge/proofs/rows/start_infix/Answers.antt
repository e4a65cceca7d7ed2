use Rattle.std.proofs.Common.{arith}
use Rattle.lassos.proofs.Rows.{rising_more}
use Rattle.judge.proofs.rows.start_infix.Goals as goal

pub loop-i-preserved : goal.loop-i-preserved
loop-i-preserved c = rising_more _ _ _ _ _ (omega arith) c.loop-i.invariant c.infix_start.ensures
