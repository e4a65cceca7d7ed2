use Rattle.std.proofs.Common.{sym}
use Rattle.tables.proofs.Checks.{told_ok}
use Rattle.tables.proofs.Files.{read_through}
use Rattle.drawings.proofs.checks.read_file.Goals as goal

pub returns : goal.returns
returns c =
    read_through c.args.bytes.now c.word-states.result c.in_ok-presses.presses c.word-states.ensures
    (told_ok _ (sym c.in_ok-check_header.ensures)) (told_ok _ (sym c.in_ok-check_states.ensures))
    c.in_ok-presses.ensures.0 c.in_ok-presses.ensures.1
