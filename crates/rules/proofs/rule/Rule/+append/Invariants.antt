use Rattle.rules.proofs.rule.Rule.+append.Given as goal

abbrev pub decreases-append : goal.decreases-append
decreases-append l = l.index
