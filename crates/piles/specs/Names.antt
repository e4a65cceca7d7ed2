-- The names of a pile's events.
use Rattle.std.specs.Prelude.{ℕ, Bool, true, false, ◌&&◌, List, []}
use Rattle.tables.specs.Layers.{pair_names}
use Rattle.tables.specs.Drawings.{key_name}
use Rattle.tables.specs.Files.{file_name}
use Rattle.piles.specs.declared.pile.Pile.{Pile}
use Rattle.piles.specs.declared.pile.Pile.TheVariants.{Drawn, Filed, Open, Pair', Bar'}
use Rattle.piles.specs.Meaning.{pile_table}

-- whether nothing in the pile lacks names, as a free dialogue does
abbrev pub all_named : Pile → Bool
all_named (Drawn d) = true
all_named (Filed f) = true
all_named (Open f) = false
all_named (Pair' p left right) = all_named left && all_named right
all_named (Bar' p event below) = all_named below

abbrev pub pile_names : Pile → ℕ → List ℕ
pile_names (Drawn d) = key_name
pile_names (Filed f) = file_name f.outline.events
pile_names (Open f) = λ _. []
pile_names (Pair' p left right) = pair_names (pile_table left) (pile_table right) (pile_names left) (pile_names right)
pile_names (Bar' p event below) = pile_names below
