-- What a pile means, by its make, and that it keeps the limits.
use Rattle.std.specs.Prelude.{vec_items, box_value}
use Rattle.tables.specs.Table.{Table, Formed}
use Rattle.tables.specs.Layers.{free, pair, barred}
use Rattle.tables.proofs.Cells.{cells_formed}
use Rattle.tables.proofs.Filed.{filed_formed}
use Rattle.tables.proofs.Layers.{free_formed, pair_formed, barred_formed}
use Rattle.drawings.specs.Drawn.{drawn}
use Rattle.drawings.specs.Opened.{opened}
use Rattle.drawings.specs.Rows.{start_at, label_at, next_at}
use Rattle.piles.specs.declared.pile.Pile.{Pile}
use Rattle.piles.specs.declared.pile.Pile.TheVariants.{Drawn, Filed, Open, Pair', Bar'}

abbrev pub pile_table : Pile → Table
pile_table (Drawn d) = drawn (box_value d)
pile_table (Filed f) = opened f
pile_table (Open f) = free f.letters
pile_table (Pair' p left right) = pair (pile_table left) (pile_table right)
pile_table (Bar' p event below) = barred event (pile_table below)

abbrev pub pile_formed : (pile : Pile) → Formed (pile_table pile)
pile_formed (Drawn b) = let d = box_value b in cells_formed d.count (start_at d.states) (label_at d.states) (next_at d.states) d.few d.fit d.within
pile_formed (Filed f) = filed_formed (vec_items f.bytes) f.outline.states f.outline.events f.outline.presses f.few f.most f.exist
pile_formed (Open f) = free_formed f.letters
pile_formed (Pair' p left right) = pair_formed (pile_table left) (pile_table right) (pile_formed left) (pile_formed right)
pile_formed (Bar' p event below) = barred_formed event (pile_table below) (pile_formed below)
