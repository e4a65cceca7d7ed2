use Rattle.denials.proofs.signed.Signed.+mentions.Given as goal

abbrev pub decreases-mentions : goal.decreases-mentions
decreases-mentions l = l.self.index
