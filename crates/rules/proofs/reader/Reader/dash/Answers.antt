use Rattle.std.proofs.Common.{◌≡◌, ap, arith}
use Rattle.formulas.specs.Table.{whole_formula}
use Rattle.formulas.proofs.Machine.{dashed, failed, step}
use Rattle.rules.specs.Reading.{stack, state, parts_of, frames_of}
use Rattle.rules.proofs.Steps.{stops}
use Rattle.rules.proofs.reader.Reader.dash.Goals as goal

pub returns-in-Blank : goal.returns-in-Blank
returns-in-Blank c =
    let r = c.args.self.now in
    let st = dashed (stack (parts_of r) (frames_of r)) (whole_formula (parts_of r)) in
    let is = c.in-Blank.is in
    let p : step st c.args.sign ≡ failed = grind arith in
    stops r c.args.sign c.args.place c.refusal.result st (ap (state (parts_of r) (frames_of r)) c.requires.mode) c.refusal.ensures p
