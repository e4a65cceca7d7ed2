use Rattle.std.proofs.Common.{List, ℕ, ◌++◌, vec_items}
use Rattle.console.specs.Answers.{Answers}
use Rattle.console.specs.Lines.{lines_of}
use Rattle.console.proofs.response.answer_lines.Given as goal

-- what is printed so far, with the answers to the lines that are left behind it, answers all lines
abbrev pub invariant-loop-line : goal.invariant-loop-line
invariant-loop-line g l =
    (goal.iterator-loop-line g).can_next l.line-iterator
    × (goal.iterator-loop-line g).is_finite l.line-iterator
    × ((rest : List ℕ) → Answers (g.D.Dialogue.table l.dialogue) (g.D.Named.names l.dialogue) (lines_of l.line-iterator.rest.now) rest → Answers (g.D.Dialogue.table l.dialogue) (g.D.Named.names l.dialogue) (lines_of l.fn.input) (vec_items l.out ++ rest))
