use Rattle.denials.proofs.signed.Signed.+due.Given as goal

abbrev pub decreases-due : goal.decreases-due
decreases-due l = l.self.index
