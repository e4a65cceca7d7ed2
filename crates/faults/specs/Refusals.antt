-- A refusal, from the layer that refuses, the cause and the place.
use Rattle.std.specs.Prelude.{ℕ}
use Rattle.faults.specs.declared.Cause.{Cause}
use Rattle.faults.specs.declared.Layer.{Layer}
use Rattle.faults.specs.declared.Fault.{Fault}

abbrev pub refusal : Layer → Cause → ℕ → Fault
refusal layer cause place = record { cause = cause; place = place; layer = layer }
