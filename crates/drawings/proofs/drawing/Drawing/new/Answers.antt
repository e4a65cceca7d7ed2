use Rattle.std.proofs.Common.{◌≡◌, ◌<◌, Some, None, get_or, arith}
use Rattle.drawings.specs.Rows.{blank_state}
use Rattle.drawings.specs.declared.drawing.state.State.{State}
use Rattle.drawings.proofs.Rows.{at_same}
use Rattle.drawings.proofs.drawing.Drawing.new.Goals as goal

pub invariant_of-result : goal.invariant_of-result
invariant_of-result c =
    let x : State = c.new.result in
    record {
      few = omega arith;
      fit = λ s. at_same (λ (y : State). y.label < 65536) 64 s x blank_state (omega (arith, c.new.ensures.label)) (omega arith);
      within = λ s e t. at_same (λ (y : State). get_or y.next e None ≡ Some t → t < 0) 64 s x blank_state (λ is. let none = c.new.ensures.next e in grind arith) (λ is. grind arith);
    }
