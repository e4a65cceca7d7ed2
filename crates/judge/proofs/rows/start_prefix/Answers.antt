use Rattle.std.proofs.Common.{arith, ◌∙◌, ap}
use Rattle.lassos.proofs.Rows.{rising_more, lit, prefix_start}
use Rattle.judge.proofs.rows.start_prefix.Goals as goal

pub loop-i-preserved : goal.loop-i-preserved
loop-i-preserved c = rising_more _ _ _ _ _ (omega arith) c.loop-i.invariant (c.prefix_start.ensures ∙ ap (λ i. prefix_start c.args.op (lit c.args.operand.now c.loop-i.i) (lit c.args.operand.now i)) c.after.ensures)
