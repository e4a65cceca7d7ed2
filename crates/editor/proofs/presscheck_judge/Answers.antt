use Rattle.std.proofs.Common.{length, refl}
use Rattle.editor.proofs.Places.{judge_number}
use Rattle.editor.proofs.presscheck_judge.Goals as goal

pub returns-in-Err : goal.returns-in-Err
returns-in-Err c =
    record {
      answer = judge_number c.args.text.now c.args.labels.now c.args.lead_in (length c.args.work.now) c.in-Err.fault c.code.result c.in-Err.ensures.answer c.code.ensures;
      unchanged = λ _. c.in-Err.ensures.unchanged refl;
    }
