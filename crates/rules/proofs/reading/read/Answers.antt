use Rattle.std.proofs.Common.{◌≡◌, length, arith}
use Rattle.std.proofs.lemmas.Result.{err_from_is_err_and}
use Rattle.rules.specs.Refusal.{too_long}
use Rattle.rules.specs.Reading.{Progress}
use Rattle.rules.proofs.Ends.{progress_more, stopped_refused, finished_answered}
use Rattle.rules.proofs.reading.read.Goals as goal

pub returns-then-text-gt-LONGEST : goal.returns-then-text-gt-LONGEST
returns-then-text-gt-LONGEST c = let e = c.refusal.ensures in rw e (too_long c.if-text-gt-LONGEST.true)

pub returns-in_err-step : goal.returns-in_err-step
returns-in_err-step c =
    let p = err_from_is_err_and c.from_residual.result c.from_residual.ensures.1 in
    rw (p.1, p.2) (stopped_refused c.args.text.now c.loop-place.place c.loop-place.reader c.in_err-step.field-0.0 c.if-text-gt-LONGEST.false c.loop-place-test.true c.loop-place.invariant c.in_err-step.ensures)

pub loop-place-preserved : goal.loop-place-preserved
loop-place-preserved c = progress_more c.args.text.now c.loop-place.place c.loop-place.reader c.step.new.self c.loop-place-test.true c.loop-place.invariant c.in_ok-step.ensures

pub returns : goal.returns
returns c =
    let n : c.loop-place.place ≡ length c.args.text.now = omega (arith, c.loop-place-test.false, c.loop-place.auto.place-end) in
    let p : Progress c.args.text.now (length c.args.text.now) c.loop-place.reader = rw n at c.loop-place.invariant in
    finished_answered c.args.text.now (length c.args.text.now) c.loop-place.reader c.finish.result mathlib.Core.Path.refl c.if-text-gt-LONGEST.false p c.finish.ensures
