-- A rule kept as a table of parts, with negation pushed down: a part of the table stands for one pushed part of either
-- sign, at the locations that the table gives. A location's part is found by its number.
use Rattle.std.specs.Prelude.{ℕ, Bool, false, cond, not, List, [], Some, None, Option, ◌==◌, slice_index_or}
use Rattle.formulas.specs.declared.Part.{Part as Row}
use Rattle.formulas.specs.declared.Part.TheVariants.{Constant, Letter, Unary, Binary}
use Rattle.formulas.specs.Table.{values_on}
use Rattle.unfolding.specs.Pushed.{Part, fixed, literal, both, either, next, finally, globally, until, release, under, left_of, prefix_pushed, infix_pushed}

abbrev pub nothing : Bool → Part
nothing b = fixed false

-- from the parts below
abbrev pub pushed_over : List (Bool → Part) → Row → Bool → Part
pushed_over below (Constant c) b = fixed (cond b c (not c))
pushed_over below (Letter a) b = literal b a
pushed_over below (Unary op f location) b = prefix_pushed op b location (slice_index_or below f nothing (under op b))
pushed_over below (Binary op f g location) b = infix_pushed op b location (slice_index_or below f nothing (left_of op b)) (slice_index_or below g nothing b)

abbrev pub pushed_parts : List Row → List (Bool → Part)
pushed_parts rows = values_on pushed_over [] rows

-- part i of the table, of that sign
abbrev pub pushed : List Row → ℕ → Bool → Part
pushed rows i = slice_index_or (pushed_parts rows) i nothing

-- the first that is there
abbrev pub first_of : Option Part → Option Part → Option Part
first_of (Some p) other = Some p
first_of None other = other

-- the temporal part of location k within a part, if there is one
abbrev pub seek : Part → ℕ → Option Part
seek (fixed b) k = None
seek (literal b a) k = None
seek (both f g) k = first_of (seek f k) (seek g k)
seek (either f g) k = first_of (seek f k) (seek g k)
seek (next l f) k = cond (k == l) (Some (next l f)) (seek f k)
seek (finally l f) k = cond (k == l) (Some (finally l f)) (seek f k)
seek (globally l f) k = cond (k == l) (Some (globally l f)) (seek f k)
seek (until l f g) k = cond (k == l) (Some (until l f g)) (first_of (seek f k) (seek g k))
seek (release l f g) k = cond (k == l) (Some (release l f g)) (first_of (seek f k) (seek g k))
