-- The worked journeys come out as they should, by computation.
use Rattle.std.proofs.Common.{refl}
use Rattle.lassos.specs.Worked.{Worked}

pub worked : Worked
worked = record { until_met = refl; until_missed = refl; released = refl; never_answered = refl; even_step = refl }
