-- The worked examples of rule texts and of journeys, joined: the texts of the rules that the journeys are judged by.
use Rattle.std.specs.Prelude.{codes}
use Rattle.formulas.specs.Grammar.{Reads}
use Rattle.lassos.specs.Worked as journeys
use Rattle.lassos.specs.Worked.{a_until_b, a_release_b, b_after_each_a, a_after_two}
use Rattle.rules.specs.Laws as texts

pub record Examples : Type 0 where
  pub texts_read : texts.Worked
  pub journeys_judged : journeys.Worked
  pub until_text : Reads (codes "aUb") a_until_b
  pub release_text : Reads (codes "aRb") a_release_b
  pub answer_text : Reads (codes "G(a->Fb)") b_after_each_a
  pub next_text : Reads (codes "XXa") a_after_two
