use Rattle.std.proofs.Common.{ℕ, Bool, not, refl, sym, ap, ◌∙◌, arith, rules, tests}
use Rattle.std.proofs.lemmas.Iterator.{YieldsList-from_range}
use Rattle.std.proofs.lemmas.Iterator.Search.{all_from_yields_List}
use Rattle.lassos.specs.Truth.{every}
use Rattle.denials.proofs.Ranges.{all_below}
use Rattle.denials.proofs.Telling.{spared, smallest_told}
use Rattle.denials.proofs.denial.Denial.is_smallest.Goals as goal

pub returns-then-carries : goal.returns-then-carries
returns-then-carries c =
    let d = c.args.self.now in
    let test : ℕ → Bool = λ k. not (spared d c.args.label c.args.owed c.args.next k) in
    smallest_told d c.args.label c.args.owed c.args.next c.all.result (sym c.if-carries.ensures)
    (all_from_yields_List test _ _ _ c.all.ensures.ran (YieldsList-from_range 0 d.locations d.locations refl (omega arith)) (λ x b q k. search (rules, tests))
    ∙ all_below test d.locations
    ∙ ap (λ m. every m test) d.counted)
