use Rattle.std.proofs.Common.{take, vec_items}
use Rattle.console.specs.Lines.{lines_of}
use Rattle.console.proofs.Answering.{answers_more, answers_all}
use Rattle.console.proofs.response.answer_lines.Goals as goal

pub loop-line-preserved : goal.loop-line-preserved
loop-line-preserved g c =
    let t = g.D.Dialogue.table c.args.dialogue.now in
    let names = g.D.Named.names c.args.dialogue.now in
    let bytes = take c.answer_line-count.result c.answer_line-count.new.out in
    (tt, tt, answers_more t names (lines_of c.args.input.now) _ _ c.in-Some.line.now (vec_items c.loop-line.out) _ bytes c.in-Some.ensures.steps c.answer_line-count.ensures.text c.in_ok-extend_from_slice.ensures.items c.loop-line.invariant.2)

pub returns : goal.returns
returns g c =
    let t = g.D.Dialogue.table c.args.dialogue.now in
    let names = g.D.Named.names c.args.dialogue.now in
    answers_all t names (lines_of c.args.input.now) _ _ c.in-None.ensures.steps.0 c.loop-line.invariant.2
