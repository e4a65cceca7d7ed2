use Rattle.denials.proofs.Shifts.{has_one, has_no_one}
use Rattle.denials.proofs.bits.only.Goals as goal

pub returns-then-location-lt32 : goal.returns-then-location-lt32
returns-then-location-lt32 c l b = has_one c.args.location l c.if-location-lt32.true

pub returns-else-location-lt32 : goal.returns-else-location-lt32
returns-else-location-lt32 c l b = has_no_one c.args.location l c.if-location-lt32.false b
