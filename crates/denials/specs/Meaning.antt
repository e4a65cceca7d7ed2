-- The rule that a denial denies.
use Rattle.formulas.specs.Formula.{Formula}
use Rattle.rules.specs.Rules.{formula}
use Rattle.denials.specs.declared.denial.Denial.{Denial}

abbrev pub denied : Denial → Formula
denied d = formula d.rule.now
