use Rattle.std.proofs.Common.{refl, ap, ◌∙◌, arith, rules, tests}
use Rattle.std.proofs.lemmas.Iterator.{YieldsList-from_range}
use Rattle.std.proofs.lemmas.Iterator.Search.{all_from_yields_List}
use Rattle.lassos.specs.Truth.{every}
use Rattle.denials.proofs.Ranges.{all_below}
use Rattle.denials.proofs.Telling.{paid}
use Rattle.denials.proofs.denial.Denial.carries.Goals as goal

pub returns : goal.returns
returns c =
    let d = c.args.self.now in
    let test = paid d c.args.label c.args.owed c.args.next in
    all_from_yields_List test _ _ _ c.all.ensures.ran (YieldsList-from_range 0 d.locations d.locations refl (omega arith)) (λ x b q k. search (rules, tests))
    ∙ all_below test d.locations
    ∙ ap (λ m. every m test) d.counted
