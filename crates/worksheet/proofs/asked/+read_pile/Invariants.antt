use Rattle.worksheet.proofs.asked.+read_pile.Given as goal

abbrev pub decreases-read_pile : goal.decreases-read_pile
decreases-read_pile l = l.depth
