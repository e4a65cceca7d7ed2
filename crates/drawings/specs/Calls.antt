-- What a list of drawing calls spells, from the arguments of the calls alone. A call that is refused alters nothing.
use Rattle.std.specs.Prelude.{List, fold}
use Rattle.tables.specs.Table.{Table}
use Rattle.tables.specs.Drawings.{blank, after_add, after_relabel, after_join, after_cut}
use Rattle.tables.specs.Takes.{after_take}
use Rattle.drawings.specs.declared.call.Call.{Call}
use Rattle.drawings.specs.declared.call.Call.TheVariants.{Add, Relabel, Join, Cut, Wipe, Take}

abbrev pub after_call : Table → Call → Table
after_call table (Add label mark) = after_add table label mark
after_call table (Relabel state label mark) = after_relabel table state label mark
after_call table (Join from event to) = after_join table from event to
after_call table (Cut from event) = after_cut table from event
after_call table Wipe = blank
after_call table (Take bytes) = after_take table bytes.now

-- the table of a new drawing after these calls
abbrev pub spelled : List Call → Table
spelled calls = fold after_call blank calls
