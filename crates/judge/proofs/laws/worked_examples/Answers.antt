use Rattle.std.proofs.Common.{codes, refl}
use Rattle.formulas.proofs.Sound.{accepted_reads}
use Rattle.lassos.proofs.Journeys.{worked}
use Rattle.rules.proofs.Theorems.{worked_law}
use Rattle.judge.proofs.laws.worked_examples.Goals as goal

pub returns : goal.returns
returns c =
    record {
      texts_read = worked_law;
      journeys_judged = worked;
      until_text = accepted_reads (codes "aUb") _ _ _ refl refl;
      release_text = accepted_reads (codes "aRb") _ _ _ refl refl;
      answer_text = accepted_reads (codes "G(a->Fb)") _ _ _ refl refl;
      next_text = accepted_reads (codes "XXa") _ _ _ refl refl;
    }
