use Rattle.std.proofs.Common.{◌<◌, arith}
use Rattle.rules.specs.Reading.{no_rule}
use Rattle.rules.proofs.Steps.{close_moves, close_fails}
use Rattle.rules.proofs.reader.Reader.close.Goals as goal

pub returns-then-self-eq0 : goal.returns-then-self-eq0
returns-then-self-eq0 c =
    let e = c.refusal.ensures in
    rw e (no_rule (close_fails c.args.self.now c.args.place c.reduce.new.self c.requires.mode c.reduce.ensures c.if-self-eq0.true))

pub returns : goal.returns
returns c =
    let open_some : 0 < c.reduce.new.self.depth = omega (arith, c.if-self-eq0.false) in
    close_moves c.args.self.now c.args.place c.reduce.new.self c.requires.sane c.requires.more c.requires.mode c.reduce.ensures open_some
