use Rattle.denials.proofs.parts.+count_operators.Given as goal

abbrev pub decreases-count_operators : goal.decreases-count_operators
decreases-count_operators l = l.index
