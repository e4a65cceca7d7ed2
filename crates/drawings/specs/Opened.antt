-- The table of a file, whatever holds its bytes.
use Rattle.std.specs.Prelude.{ℕ}
use Rattle.std.specs.declared.convert.AsSlice.{Ghosts}
use Rattle.tables.specs.Table.{Table}
use Rattle.tables.specs.Files.{filed}
use Rattle.drawings.specs.declared.file.File.{File}

abbrev pub opened : {B : Type 0} {holds : Ghosts B ℕ} → File B holds → Table
opened {B} {holds} f = filed (holds.items f.bytes) f.outline.states f.outline.events f.outline.presses
