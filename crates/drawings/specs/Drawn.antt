-- The table of a drawing.
use Rattle.tables.specs.Table.{Table}
use Rattle.tables.specs.Cells.{cells}
use Rattle.drawings.specs.Rows.{start_at, label_at, next_at}
use Rattle.drawings.specs.declared.drawing.Drawing.{Drawing}

abbrev pub drawn : Drawing → Table
drawn d = cells d.count (start_at d.states) (label_at d.states) (next_at d.states)
