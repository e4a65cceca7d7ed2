use Rattle.std.proofs.Common.{arith}
use Rattle.rules.specs.Rules.{formula}
use Rattle.printing.specs.declared.answer.Answer.TheVariants.{Refused}
use Rattle.search.specs.Lists.{lengths}
use Rattle.console.specs.Answers.{misread}
use Rattle.console.proofs.Serves.{served_presses, served_if, refused_right}
use Rattle.console.proofs.Rooms.{told_sound, told_room, told_right}
use Rattle.console.proofs.answers.answer_line.Goals as goal

pub returns-in-Err-clause-text : goal.returns-in-Err-clause-text
returns-in-Err-clause-text g c = record { answer = Refused c.in-Err.fault; right = misread c.in-Err.fault c.in-Err.ensures; printed = c.put_refusal.ensures.bytes }

pub put_answer-requires-clause-sound : goal.put_answer-requires-clause-sound
put_answer-requires-clause-sound g c =
    told_sound (g.D.Dialogue.table c.args.dialogue.now) (g.D.Dialogue.formed c.args.dialogue.now) (formula c.in-Ok.rule) c.args.presses.now c.check.new.presses c.in-Ok-check.checked.broken c.answer_of.result c.in-Ok-check.ensures.answer.2 c.answer_of.ensures

pub put_answer-requires-clause-room : goal.put_answer-requires-clause-room
put_answer-requires-clause-room g c =
    let t = g.D.Dialogue.table c.args.dialogue.now in
    let f = formula c.in-Ok.rule in
    let e = c.in-Ok-check.ensures.answer in
    let small = served_if t f (lengths c.args.lists) _ _ c.requires.room e.0.long in
    let few = served_presses t f (lengths c.args.lists) _ _ c.requires.room small in
    let fits = told_room t (g.D.Dialogue.formed c.args.dialogue.now) f c.args.presses.now c.check.new.presses (g.D.Named.names c.args.dialogue.now) c.requires.brief few c.in-Ok-check.checked.broken c.answer_of.result e.2 c.answer_of.ensures in
    let out = c.requires.room.out_is in
    omega arith

pub returns-in-Ok-check-clause-text : goal.returns-in-Ok-check-clause-text
returns-in-Ok-check-clause-text g c =
    let t = g.D.Dialogue.table c.args.dialogue.now in
    let f = formula c.in-Ok.rule in
    let e = c.in-Ok-check.ensures.answer in
    let small = served_if t f (lengths c.args.lists) _ _ c.requires.room e.0.long in
    record {
      answer = c.answer_of.result;
      right = told_right t (g.D.Dialogue.formed c.args.dialogue.now) f c.args.presses.now c.check.new.presses c.args.line.now c.in-Ok.ensures small e.0.start c.in-Ok-check.checked.broken c.answer_of.result e.2 c.answer_of.ensures;
      printed = c.put_answer.ensures.bytes;
    }

pub returns-in-Err-check-clause-text : goal.returns-in-Err-check-clause-text
returns-in-Err-check-clause-text g c =
    let t = g.D.Dialogue.table c.args.dialogue.now in
    record {
      answer = Refused c.in-Err-check.fault;
      right = refused_right t (formula c.in-Ok.rule) (lengths c.args.lists) _ _ c.requires.room c.in-Err-check.fault c.args.line.now c.in-Ok.ensures c.in-Err-check.ensures.answer;
      printed = c.put_refusal-in-Err-check.ensures.bytes;
    }
