use Rattle.std.proofs.Common.{sym, ◌∙◌}
use Rattle.std.proofs.lemmas.Bool.{false≢true}
use Rattle.std.proofs.lemmas.Result.{err_from_is_err_and}
use Rattle.tables.proofs.Same.{none_some}
use Rattle.tables.proofs.Unique.{accepted_by_layout, tables_tell_files}
use Rattle.drawings.proofs.checks.check_file.Goals as goal

pub returns-in_err-read_file-clause-layout : goal.returns-in_err-read_file-clause-layout
returns-in_err-read_file-clause-layout c =
    let p = err_from_is_err_and c.from_residual.result c.from_residual.ensures.1 in (
      λ e. absurd (false≢true (rw p.1 at e)),
      λ allowed. absurd (none_some (sym ((accepted_by_layout c.args.bytes.now).1 allowed) ∙ c.in_err-read_file.ensures)),
    )

pub returns-in_err-read_file-clause-apart : goal.returns-in_err-read_file-clause-apart
returns-in_err-read_file-clause-apart c = tables_tell_files

pub returns-clause-apart : goal.returns-clause-apart
returns-clause-apart c = tables_tell_files
