use Rattle.std.proofs.Common.{◌^◌, ◌<◌, arith, rules}
use Rattle.printing.proofs.Lengths.{refused_length}
use Rattle.console.proofs.answers.put_refusal.Goals as goal

pub put_answer-requires-clause-room : goal.put_answer-requires-clause-room
put_answer-requires-clause-room g c =
    let fits : c.args.fault.place < 2 ^ 64 = search rules in
    let short = refused_length (g.D.Named.names c.args.dialogue.now) c.args.fault fits in
    omega (arith, short, c.requires)
