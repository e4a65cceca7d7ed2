-- Labels in bytes, two bytes a label, the least first; an odd last byte does not count.
use Rattle.std.specs.Prelude.{ℕ, ◌+◌, ◌*◌, List, [], ◌∷◌}

abbrev pub byte_labels : List ℕ → List ℕ
byte_labels [] = []
byte_labels (low ∷ []) = []
byte_labels (low ∷ high ∷ rest) = (low + 256 * high) ∷ byte_labels rest
