use Rattle.rules.proofs.Reduce.{Reducing}
use Rattle.rules.proofs.reader.Reader.reduce.Given as goal

abbrev pub invariant-loop-self : goal.invariant-loop-self
invariant-loop-self l = Reducing l.floor l.initial.self l.place l.self

abbrev pub decreases-loop-self : goal.decreases-loop-self
decreases-loop-self l = l.self.depth
