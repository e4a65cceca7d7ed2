use Rattle.std.proofs.Common.{◌≡◌, ap, arith}
use Rattle.formulas.proofs.Machine.{wanting, failed, step}
use Rattle.rules.specs.Reading.{stack, state, parts_of, frames_of}
use Rattle.std.proofs.lemmas.Result.{err_from_is_err_and}
use Rattle.rules.proofs.Steps.{stops, open_returns, prefix_returns, prefix_stops, constant_returns, letter_returns}
use Rattle.rules.proofs.reader.Reader.want.Goals as goal

pub returns-in_err-location-in-Before : goal.returns-in_err-location-in-Before
returns-in_err-location-in-Before c =
    let p = err_from_is_err_and c.from_residual.result c.from_residual.ensures.1 in
    rw (p.1, p.2) (prefix_stops c.args.self.now c.args.sign c.args.place c.in-Before.op c.is_temporal.result c.in_err-location-in-Before.field-0.0 c.in-Before.is c.is_temporal.ensures c.in_err-location-in-Before.ensures c.requires.mode)

pub returns-in-Close : goal.returns-in-Close
returns-in-Close c =
    let r = c.args.self.now in
    let st = wanting (stack (parts_of r) (frames_of r)) in
    let is = c.in-Close.is in
    let p : step st c.args.sign ≡ failed = grind arith in
    stops r c.args.sign c.args.place c.refusal.result st (ap (state (parts_of r) (frames_of r)) c.requires.mode) c.refusal.ensures p

pub returns-in-Open : goal.returns-in-Open
returns-in-Open c = open_returns c.args.self.now c.args.sign c.args.place c.push_frame.new.self c.in-Open.is c.requires.sane c.requires.more c.requires.mode c.push_frame.ensures

pub returns-in_ok-location-in-Before : goal.returns-in_ok-location-in-Before
returns-in_ok-location-in-Before c =
    prefix_returns c.args.self.now c.args.sign c.args.place c.in-Before.op c.locate.new.self c.push_frame-in-Before.new.self c.is_temporal.result c.in_ok-location-in-Before.location
    c.in-Before.is c.is_temporal.ensures c.in_ok-location-in-Before.ensures c.requires.sane c.requires.more c.requires.mode c.push_frame-in-Before.ensures

pub returns-in-Constant : goal.returns-in-Constant
returns-in-Constant c = constant_returns c.args.self.now c.args.sign c.args.place c.in-Constant.value c.push_operand.new.self c.in-Constant.is c.requires.sane c.requires.more c.requires.mode c.push_operand.ensures

pub returns-in-Letter : goal.returns-in-Letter
returns-in-Letter c = letter_returns c.args.self.now c.args.sign c.args.place c.in-Letter.letter c.push_operand-in-Letter.new.self c.in-Letter.is c.requires.known c.requires.sane c.requires.more c.requires.mode c.push_operand-in-Letter.ensures
