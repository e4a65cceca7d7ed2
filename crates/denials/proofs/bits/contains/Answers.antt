use Rattle.std.proofs.Common.{sym, ◌∙◌, arith}
use Rattle.std.proofs.lemmas.Bool.{le-ltb}
use Rattle.unfolding.proofs.Sets.{has_small}
use Rattle.denials.proofs.Shifts.{has_shift}
use Rattle.denials.proofs.bits.contains.Goals as goal

pub returns-then-location-lt32 : goal.returns-then-location-lt32
returns-then-location-lt32 c = sym (has_shift c.args.set c.args.location)

pub returns-else-location-lt32 : goal.returns-else-location-lt32
returns-else-location-lt32 c = le-ltb c.args.location 32 c.if-location-lt32.false ∙ sym (has_small 32 c.args.set c.args.location (omega arith) c.if-location-lt32.false)
