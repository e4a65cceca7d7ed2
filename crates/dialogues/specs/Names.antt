-- What the name of an event spells.
use Rattle.std.specs.Prelude.{ℕ, Bool, cond, ◌&&◌, List, [], length, take, Some, None, Option, nat_le, nat_lt}
use Rattle.dialogues.specs.declared.name.Name.{Name}

abbrev pub name_bytes : Name → List ℕ
name_bytes n = take n.len n.bytes

-- no name spells nothing
abbrev pub spelled : Option Name → List ℕ
spelled None = []
spelled (Some n) = name_bytes n

-- a name has 1 to 8 bytes
abbrev pub fits_name : List ℕ → Bool
fits_name text = nat_lt 0 (length text) && nat_le (length text) 8

abbrev pub fit_name : List ℕ → List ℕ
fit_name text = cond (fits_name text) text []
