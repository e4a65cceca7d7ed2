use Rattle.denials.proofs.signed.Signed.+is_carried.Given as goal

abbrev pub decreases-is_carried : goal.decreases-is_carried
decreases-is_carried l = l.self.index
