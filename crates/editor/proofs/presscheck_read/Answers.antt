use Rattle.editor.proofs.Places.{read_number}
use Rattle.editor.proofs.presscheck_read.Goals as goal

pub returns-in-Err : goal.returns-in-Err
returns-in-Err c = read_number c.args.text.now c.in-Err.fault c.code.result c.in-Err.ensures c.code.ensures
