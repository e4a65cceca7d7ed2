use Rattle.std.proofs.Common.{Bool, ◌&&◌, sym, ap, ◌∙◌}
use Rattle.components.specs.Bits.{has}
use Rattle.components.proofs.Bits.{has_none}
use Rattle.denials.proofs.bits.select.Goals as goal

pub returns-else-wanted : goal.returns-else-wanted
returns-else-wanted c l = has_none l ∙ sym (ap (λ (x : Bool). x && has c.args.set l) c.if-wanted.false)
