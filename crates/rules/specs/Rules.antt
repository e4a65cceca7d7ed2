-- What a rule stands for.
use Rattle.std.specs.Prelude.{ℕ, Bool, false, cond, List, [], ◌∷◌, take, slice_index_or}
use Rattle.formulas.specs.declared.Part.{Part}
use Rattle.formulas.specs.Formula.{Formula, constant}
use Rattle.formulas.specs.Written.{written_at}
use Rattle.formulas.specs.Table.{formulas, whole_formula}
use Rattle.rules.specs.declared.rule.Rule.{Rule}

-- its parts
abbrev pub table : Rule → List Part
table r = take r.count r.parts

-- its formula: what its last part stands for
abbrev pub formula : Rule → Formula
formula r = whole_formula (table r)

-- a bracket, where it is wanted
abbrev pub bracket_if : Bool → ℕ → List ℕ
bracket_if wanted byte = cond wanted (byte ∷ []) []

-- the text of one part of a table, as an operand of that level
abbrev pub part_text : List Part → ℕ → ℕ → List ℕ
part_text ps i l = written_at l (slice_index_or (formulas ps) i (constant false))
