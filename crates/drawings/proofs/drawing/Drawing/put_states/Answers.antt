use Rattle.std.proofs.Common.{arith}
use Rattle.tables.proofs.Writes.{state_step}
use Rattle.drawings.specs.Drawn.{drawn}
use Rattle.drawings.proofs.drawing.Drawing.put_states.Goals as goal

pub loop-state-preserved : goal.loop-state-preserved
loop-state-preserved c =
    state_step (drawn c.args.self.now) c.args.out.now c.loop-state.out c.put_state.new.out c.loop-state.state (omega (arith, c.requires)) c.loop-state.invariant c.put_state.ensures
