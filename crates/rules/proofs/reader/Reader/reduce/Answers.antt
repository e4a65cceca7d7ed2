use Rattle.std.proofs.Common.{◌<◌, ◌≤◌, arith}
use Rattle.rules.specs.Reading.{binds, top_frame}
use Rattle.rules.proofs.Reduce.{reducing_step, reduced_stop}
use Rattle.rules.proofs.reader.Reader.reduce.Goals as goal

pub loop-self-preserved : goal.loop-self-preserved
loop-self-preserved c =
    let q = c.loop-self.self in
    let k : c.args.floor < binds (top_frame q) = omega (arith, c.binding.ensures, c.if-binding-floor.true) in
    let e = c.apply_top.ensures in
    rw e (reducing_step c.args.floor c.args.self.now c.args.place q c.requires.short c.loop-self.invariant c.loop-self-test.true k)

pub returns-else-binding-floor : goal.returns-else-binding-floor
returns-else-binding-floor c =
    let q = c.loop-self.self in
    let k : binds (top_frame q) ≤ c.args.floor = omega (arith, c.binding.ensures, c.if-binding-floor.false) in
    reduced_stop c.args.floor c.args.self.now c.args.place q c.requires.short c.loop-self.invariant c.loop-self-test.true k
