use Rattle.std.proofs.Common.{List, length, ap, ◌∙◌, rules}
use Rattle.std.proofs.lemmas.Bool.{ltb-true}
use Rattle.formulas.specs.declared.Part.{Part}
use Rattle.formulas.specs.Table.{whole_formula}
use Rattle.rules.specs.Rules.{formula}
use Rattle.lassos.specs.Truth.{truth}
use Rattle.lassos.proofs.Laws.{first_law}
use Rattle.judge.proofs.Admitted.{Passed, passed, judged_is}
use Rattle.judge.proofs.judge.Goals as goal

pub returns : goal.returns
returns g c =
    let p : Passed c.count-count.result c.args.lead_in (length c.args.work.now) = passed _ _ _ _ _ c.in_ok-admit.ensures in
    let value = c.evaluate.ensures ∙ ap (λ (ps : List Part). truth (whole_formula ps) (g.L.Labels.list c.args.labels.now) c.args.lead_in 0) c.parts.ensures.value in
    record {
      answer = judged_is (formula c.args.rule.now) _ _ _ _ _ c.count-count.ensures p value;
      endless = first_law (formula c.args.rule.now) _ _ _ _ c.count-count.ensures (ltb-true _ _ p.inside) value;
      unchanged = search rules;
    }
