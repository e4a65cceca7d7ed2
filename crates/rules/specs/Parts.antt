-- The tables of parts that are rules.
use Rattle.std.specs.Prelude.{◌≡◌, ◌<◌, ◌≤◌, true, List, length}
use Rattle.formulas.specs.declared.Part.{Part}
use Rattle.formulas.specs.Formula.{operators}
use Rattle.formulas.specs.Written.{written}
use Rattle.formulas.specs.Table.{sound, whole_formula, whole_locations, counted_from}

-- Each part has a sign of its own in a text of at most 128 bytes, so there are at most 128 parts. The temporal
-- operators, at most nine, are numbered from the left as their signs stand in the text. Written out, a rule has at
-- most 128 bytes.
pub record IsRule (ps : List Part) : Type 0 where
  pub some : 0 < length ps
  pub few : length ps ≤ 128
  pub operands : sound ps ≡ true
  pub numbered : whole_locations ps ≡ counted_from 1 (operators (whole_formula ps))
  pub brief : length (written (whole_formula ps)) ≤ 128
  pub nine : operators (whole_formula ps) ≤ 9
