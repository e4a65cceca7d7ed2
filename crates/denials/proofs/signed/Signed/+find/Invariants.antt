use Rattle.denials.proofs.signed.Signed.+find.Given as goal

abbrev pub decreases-find : goal.decreases-find
decreases-find l = l.self.index
