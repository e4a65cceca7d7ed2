use Rattle.rules.specs.Reading.{Progress}
use Rattle.rules.proofs.reading.read.Given as goal

abbrev pub invariant-loop-place : goal.invariant-loop-place
invariant-loop-place l = Progress l.text l.place l.reader
