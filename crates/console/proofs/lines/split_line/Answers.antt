use Rattle.std.proofs.Common.{ℕ, ◌+◌, List, ◌∷◌, take, ap, ◌∙◌, sym}
use Rattle.std.proofs.lemmas.List.{take_rest}
use Rattle.console.specs.Lines.{lines_of}
use Rattle.console.proofs.Cutting.{cut_at, not_cut}
use Rattle.console.proofs.lines.split_line.Goals as goal

pub returns-in-Some : goal.returns-in-Some
returns-in-Some c =
    let bytes = c.args.bytes.now in
    let end = c.in-Some.end in
    cut_at bytes _ c.newline.ensures end c.in-Some.is ∙ ap (λ (rest : List ℕ). take end bytes ∷ lines_of rest) (sym (take_rest bytes (end + 1)))

pub returns-in-None : goal.returns-in-None
returns-in-None c = not_cut c.args.bytes.now _ c.newline.ensures c.requires c.in-None.is
