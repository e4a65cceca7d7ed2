use Rattle.std.proofs.Common.{Err, ap, ◌∙◌, arith}
use Rattle.printing.proofs.Absent.{absent_refused, none_absent}
use Rattle.printing.proofs.refusal.admit.Goals as goal

pub returns-in-Some : goal.returns-in-Some
returns-in-Some g c =
    let t = g.D.Dialogue.table c.args.dialogue.now in
    rw c.in-Broken.is (ap Err c.refusal-in-Some.ensures ∙ absent_refused t c.in-Broken.entries.now c.in-Broken.lead_in (omega arith) _ c.first_absent.ensures _ c.in-Some.is)

pub returns-in-None : goal.returns-in-None
returns-in-None g c =
    let t = g.D.Dialogue.table c.args.dialogue.now in
    rw c.in-Broken.is (none_absent t c.in-Broken.entries.now c.in-Broken.lead_in (omega arith) _ c.first_absent.ensures c.in-None.is)
