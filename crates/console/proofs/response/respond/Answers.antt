use Rattle.std.proofs.Common.{vec_items, sym, ◌∙◌}
use Rattle.std.proofs.lemmas.Result.{IfOk-weaker}
use Rattle.drawings.specs.Opened.{opened}
use Rattle.console.proofs.Answering.{brief_names, prints_answers, prints_fault}
use Rattle.console.proofs.response.respond.Goals as goal

pub respond_to-requires : goal.respond_to-requires
respond_to-requires c = brief_names c.new.result.outline.events c.new.result.most

pub returns-in-Ok : goal.returns-in-Ok
returns-in-Ok c =
    IfOk-weaker c.respond_to.result _ _
    (λ out. prints_answers c.args.file.now c.front-bytes.result.now (opened c.new.result) c.front-bytes.ensures c.new.ensures c.args.input.now c.front.result.now (vec_items out) c.in-Ok.field-0 (sym c.in-Ok.is ∙ c.check_file.ensures.answer) c.front.ensures)
    c.respond_to.ensures

pub returns-in-Err : goal.returns-in-Err
returns-in-Err c =
    IfOk-weaker c.refusal_text.result _ _
    (λ out. prints_fault c.args.file.now c.front-bytes.result.now (opened c.new.result) c.front-bytes.ensures c.new.ensures c.args.input.now (vec_items out) c.in-Err.fault (sym c.in-Err.is ∙ c.check_file.ensures.answer))
    c.refusal_text.ensures
