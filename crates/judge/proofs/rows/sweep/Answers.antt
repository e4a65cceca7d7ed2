use Rattle.std.proofs.Common.{arith}
use Rattle.lassos.proofs.Rows.{sweeping_more}
use Rattle.judge.proofs.rows.sweep.Goals as goal

pub loop-i-preserved : goal.loop-i-preserved
loop-i-preserved c = sweeping_more _ _ _ _ _ _ _ _ _ (omega arith) c.step_back-value.ensures c.loop-i.invariant
