use Rattle.std.proofs.Common.{Err, sym, ap, ◌∙◌}
use Rattle.std.proofs.lemmas.Result.{err_from_is_err_and}
use Rattle.tables.specs.Files.{told}
use Rattle.tables.proofs.Checks.{told_err, states_stop}
use Rattle.drawings.proofs.checks.check_states.Goals as goal

pub returns-in_err-check_state : goal.returns-in_err-check_state
returns-in_err-check_state c =
    let p = err_from_is_err_and c.from_residual.result c.from_residual.ensures.1 in
    let f = told_err _ (sym c.in_err-check_state.ensures) in
    p.1 ∙ (ap Err p.2 ∙ sym (ap told (states_stop c.args.bytes.now c.loop-i.i c.args.states c.loop-i-test.true c.loop-i.invariant.0 f)))
