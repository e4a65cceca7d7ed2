use Rattle.std.proofs.Common.{◌≤◌, length, refl, arith}
use Rattle.rules.proofs.Ends.{whole_rule, left_open}
use Rattle.rules.proofs.reader.Reader.finish.Goals as goal

pub returns-then-self-gt0 : goal.returns-then-self-gt0
returns-then-self-gt0 c = (c.refusal-then-self-gt0.ensures, left_open c.args.self (length c.args.text.now) c.reduce.new.self c.requires.sane c.in-Having.is c.reduce.ensures c.if-self-gt0.true)

pub assemble-requires : goal.assemble-requires
assemble-requires c =
    let q = c.reduce.new.self in
    let few : q.count ≤ 128 = omega (arith, c.reduce.ensures.tables.room, c.requires.sane.short) in
    record { few = few; formed = whole_rule c.args.text.now (length c.args.text.now) c.args.self q refl c.requires c.in-Having.is c.reduce.ensures c.if-self-gt0.false }
