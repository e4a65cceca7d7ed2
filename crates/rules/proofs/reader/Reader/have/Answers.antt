use Rattle.std.proofs.Common.{◌≡◌, refl, ap, arith}
use Rattle.formulas.specs.Table.{whole_formula}
use Rattle.formulas.proofs.Machine.{having, failed, step}
use Rattle.rules.specs.Reading.{stack, state, parts_of, frames_of}
use Rattle.rules.proofs.Steps.{stops, joined_steps}
use Rattle.rules.proofs.reader.Reader.have.Goals as goal

pub returns-in-Between : goal.returns-in-Between
returns-in-Between c =
    let r = c.args.self.now in
    let st = having (stack (parts_of r) (frames_of r)) (whole_formula (parts_of r)) in
    let is = c.in-Between.is in
    rw is (joined_steps r _ c.in-Between.op c.args.place c.join.new.self c.join.result st (ap (state (parts_of r) (frames_of r)) c.requires.mode) refl refl c.join.ensures)

pub returns-in-Open : goal.returns-in-Open
returns-in-Open c =
    let r = c.args.self.now in
    let st = having (stack (parts_of r) (frames_of r)) (whole_formula (parts_of r)) in
    let is = c.in-Open.is in
    let p : step st c.args.sign ≡ failed = grind arith in
    stops r c.args.sign c.args.place c.refusal.result st (ap (state (parts_of r) (frames_of r)) c.requires.mode) c.refusal.ensures p
