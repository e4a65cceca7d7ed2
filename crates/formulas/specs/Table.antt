-- A rule as a table of parts, in which operands stand below their operator and the last part is the whole rule:
-- what each part stands for, and when a table is sound.
use Rattle.std.specs.Prelude.{ℕ, zero, suc, ◌-◌, Bool, true, false, cond, List, [], ◌∷◌, ◌++◌, length, nat_lt, slice_index_or}
use Rattle.formulas.specs.declared.Part.{Part}
use Rattle.formulas.specs.declared.Part.TheVariants.{Constant, Letter, Unary, Binary}
use Rattle.formulas.specs.Formula.{Formula, constant, letter, unary, binary, temporal_prefix, temporal_infix}

-- a value for each part, made from the values of the parts below it
abbrev pub values_on : {A : Type 0} → (List A → Part → A) → List A → List Part → List A
values_on make below [] = below
values_on make below (p ∷ ps) = values_on make (below ++ (make below p ∷ [])) ps

-- the formula that a part stands for
abbrev pub formula_over : List Formula → Part → Formula
formula_over below (Constant b) = constant b
formula_over below (Letter a) = letter a
formula_over below (Unary op f location) = unary op (slice_index_or below f (constant false))
formula_over below (Binary op f g location) = binary op (slice_index_or below f (constant false)) (slice_index_or below g (constant false))

abbrev pub formulas : List Part → List Formula
formulas ps = values_on formula_over [] ps

-- the locations of the temporal operators in a part, from the left
abbrev pub locations_over : List (List ℕ) → Part → List ℕ
locations_over below (Constant b) = []
locations_over below (Letter a) = []
locations_over below (Unary op f location) = cond (temporal_prefix op) (location ∷ []) [] ++ slice_index_or below f []
locations_over below (Binary op f g location) = slice_index_or below f [] ++ (cond (temporal_infix op) (location ∷ []) [] ++ slice_index_or below g [])

abbrev pub locations : List Part → List (List ℕ)
locations ps = values_on locations_over [] ps

-- the last part is the whole
abbrev pub whole_formula : List Part → Formula
whole_formula ps = slice_index_or (formulas ps) (length ps - 1) (constant false)

abbrev pub whole_locations : List Part → List ℕ
whole_locations ps = slice_index_or (locations ps) (length ps - 1) []

-- n numbers, counted up from k
abbrev pub counted_from : ℕ → ℕ → List ℕ
counted_from k zero = []
counted_from k (suc n) = k ∷ counted_from (suc k) n

-- a part at place i: its operands stand below it, and a letter is one of a to p
abbrev pub sound_part : ℕ → Part → Bool
sound_part i (Constant b) = true
sound_part i (Letter a) = nat_lt a 16
sound_part i (Unary op f location) = nat_lt f i
sound_part i (Binary op f g location) = cond (nat_lt f i) (nat_lt g i) false

abbrev pub sound_from : ℕ → List Part → Bool
sound_from i [] = true
sound_from i (p ∷ ps) = cond (sound_part i p) (sound_from (suc i) ps) false

abbrev pub sound : List Part → Bool
sound ps = sound_from 0 ps
