use Rattle.std.proofs.Common.{◌≡◌, ◌<◌, refl, arith}
use Rattle.formulas.specs.Formula.{operators}
use Rattle.rules.specs.Rules.{table, formula}
use Rattle.unfolding.specs.Pushed.{locations}
use Rattle.denials.proofs.Filling.{filled_none, filled_more}
use Rattle.denials.proofs.denial.Denial.new.Goals as goal

pub loop-location-init : goal.loop-location-init
loop-location-init c = filled_none (table c.args.rule.now) _ refl

pub loop-location-preserved : goal.loop-location-preserved
loop-location-preserved c =
    let r = c.args.rule.now in
    let e = c.parts.ensures.value in
    let n : c.count_operators-locations.result ≡ operators (formula r) = rw e at c.count_operators-locations.ensures in
    let nine = r.formed.nine in
    let there : c.loop-location.location < locations (formula r) = omega (arith, c.loop-location-test.true) in
    filled_more (table r) c.loop-location.location c.loop-location.debts c.loop-location.promises c.loop-location.invariant (omega arith) there
    c.owing-owed.result c.owing-owed.ensures c.mentions.result c.mentions.ensures c.only.result c.select-promises.result c.only.ensures c.select-promises.ensures
