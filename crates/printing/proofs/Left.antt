-- Loops over entries: what is left, one entry on and at the end.
use Rattle.std.proofs.Common.{◌≡◌, ℕ, ◌+◌, ◌<◌, ◌≤◌, List, [], ◌++◌, length, get_or, drop, ap, ◌∙◌}
use Rattle.std.specs.List.{flat_map}
use Rattle.std.proofs.lemmas.List.{at_drop_more, at_drop_all, length-append}
use Rattle.unfolding.specs.declared.Press.{Press}

-- the entry at a place, as the code reads it
abbrev pub at_place : List Press → ℕ → Press
at_place es i = get_or es i (record { state = 0; event = 0 })

module _ (f : Press → List ℕ) (es : List Press) (i : ℕ) where
  pub joined_left : i < length es → flat_map f (drop i es) ≡ f (at_place es i) ++ flat_map f (drop (i + 1) es)
  joined_left h = at_drop_more (flat_map f) es i (record { state = 0; event = 0 }) h

  pub length_left : i < length es → length (flat_map f (drop i es)) ≡ length (f (at_place es i)) + length (flat_map f (drop (i + 1) es))
  length_left h = ap length (joined_left h) ∙ length-append (f (at_place es i)) (flat_map f (drop (i + 1) es))

  pub joined_none : length es ≤ i → flat_map f (drop i es) ≡ []
  joined_none h = at_drop_all (flat_map f) es i h
