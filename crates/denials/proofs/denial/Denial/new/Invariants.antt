use Rattle.rules.specs.Rules.{table}
use Rattle.denials.proofs.Filling.{Filled}
use Rattle.denials.proofs.denial.Denial.new.Given as goal

abbrev pub invariant-loop-location : goal.invariant-loop-location
invariant-loop-location l = Filled (table l.rule) l.location l.debts l.promises
