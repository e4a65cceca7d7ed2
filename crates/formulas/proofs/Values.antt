-- The values of a table of parts, as `values_on` makes them: a value stays as more parts follow, and in a sound table
-- each is made from the values of the whole table.
use Rattle.std.proofs.Common.{◌≡◌, ℕ, zero, suc, ◌+◌, ◌-◌, ◌<◌, ◌≤◌, Bool, true, false, cond, ltb, List, [], ◌∷◌, ◌++◌, length, get_or, sym, refl, ap, ◌∙◌, inl, inr, add-zero, zero-add, arith, length-append}
use Rattle.std.proofs.lemmas.List.{get_or_append_left, get_or_at, get_or_past, length_push}
use Rattle.std.proofs.lemmas.Bool.{ltb-true, both_ways, cases_order}
use Rattle.formulas.specs.declared.Part.{Part}
use Rattle.formulas.specs.declared.Part.TheVariants.{Constant, Letter, Unary, Binary}
use Rattle.formulas.specs.Formula.{Formula, constant, unary, temporal_prefix, temporal_infix, operators}
use Rattle.formulas.specs.Table.{values_on, formula_over, formulas, locations_over, locations, whole_formula, whole_locations, sound_part, sound_from, sound}

-- a test made of two
pub both_true : (a b : Bool) → cond a b false ≡ true → (a ≡ true) × (b ≡ true)
both_true true b h = (refl, h)
both_true false b h = absurd (both_ways false refl h)

module _ {A : Type 0} (make : List A → Part → A) where
  pub values_append : (below : List A) (ps qs : List Part) → values_on make below (ps ++ qs) ≡ values_on make (values_on make below ps) qs
  values_append below [] qs = refl
  values_append below (p ∷ ps) qs = values_append (below ++ (make below p ∷ [])) ps qs

  pub values_length : (below : List A) (ps : List Part) → length (values_on make below ps) ≡ length below + length ps
  values_length below [] = sym (add-zero (length below))
  values_length below (p ∷ ps) =
      let ih = values_length (below ++ (make below p ∷ [])) ps in
      let e = length_push below (make below p) in
      omega (arith, ih, e)

  pub values_keep : (below : List A) (ps : List Part) (i : ℕ) (d : A) → i < length below → get_or (values_on make below ps) i d ≡ get_or below i d
  values_keep below [] i d h = refl
  values_keep below (p ∷ ps) i d h =
      let e = length_push below (make below p) in
      let more : i < length (below ++ (make below p ∷ [])) = omega (arith, e) in
      values_keep (below ++ (make below p ∷ [])) ps i d more ∙ get_or_append_left below (make below p ∷ []) d i h

  -- one part more
  pub values_push : (ps : List Part) (p : Part) → values_on make [] (ps ++ (p ∷ [])) ≡ values_on make [] ps ++ (make (values_on make [] ps) p ∷ [])
  values_push ps p = values_append [] ps (p ∷ [])

-- the last test of a table
pub sound_push_from : (i : ℕ) (ps : List Part) (p : Part) → sound_from i ps ≡ true → sound_part (i + length ps) p ≡ true → sound_from i (ps ++ (p ∷ [])) ≡ true
sound_push_from i [] p h k =
    let e : i + 0 ≡ i = add-zero i in
    let k' : sound_part i p ≡ true = rw e at k in
    rw k'
sound_push_from i (q ∷ ps) p h k =
    let parts = both_true (sound_part i q) (sound_from (suc i) ps) h in
    let e : i + suc (length ps) ≡ suc i + length ps = omega arith in
    let k' : sound_part (suc i + length ps) p ≡ true = rw e at k in
    let rest = sound_push_from (suc i) ps p parts.1 k' in
    let here = parts.0 in
    rw (here, rest)

pub sound_push : (ps : List Part) (p : Part) → sound ps ≡ true → sound_part (length ps) p ≡ true → sound (ps ++ (p ∷ [])) ≡ true
sound_push ps p h k =
    let e : 0 + length ps ≡ length ps = zero-add (length ps) in
    let k' : sound_part (0 + length ps) p ≡ true = rw e k in
    sound_push_from 0 ps p h k'

pub sound_at_from : (i : ℕ) (ps : List Part) (k : ℕ) (d : Part) → sound_from i ps ≡ true → k < length ps → sound_part (i + k) (get_or ps k d) ≡ true
sound_at_from i [] k d h l = absurd (omega arith)
sound_at_from i (p ∷ ps) zero d h l =
    let e : i + 0 ≡ i = add-zero i in
    rw e (both_true (sound_part i p) (sound_from (suc i) ps) h).0
sound_at_from i (p ∷ ps) (suc k) d h l =
    let e : i + suc k ≡ suc i + k = omega arith in
    let l' : k < length ps = omega arith in
    rw e (sound_at_from (suc i) ps k d (both_true (sound_part i p) (sound_from (suc i) ps) h).1 l')

pub sound_at : (ps : List Part) (k : ℕ) (d : Part) → sound ps ≡ true → k < length ps → sound_part k (get_or ps k d) ≡ true
sound_at ps k d h l =
    let e : 0 + k ≡ k = zero-add k in
    rw e at (sound_at_from 0 ps k d h l)

-- a value at a part depends on the values below it alone
abbrev pub Local : {A : Type 0} → (List A → Part → A) → A → Type 0
Local {A} make d = (xs ys : List A) (i : ℕ) (p : Part) → sound_part i p ≡ true → ((j : ℕ) → j < i → get_or xs j d ≡ get_or ys j d) → make xs p ≡ make ys p

module _ {A : Type 0} (make : List A → Part → A) (d : A) (local : Local make d) where
  pub values_at_from : (below : List A) (ps : List Part) (k : ℕ) (e : Part) → sound_from (length below) ps ≡ true → k < length ps → get_or (values_on make below ps) (length below + k) d ≡ make (values_on make below ps) (get_or ps k e)
  values_at_from below [] k e h l = absurd (omega arith)
  values_at_from below (p ∷ ps) zero e h l =
      let here = (both_true (sound_part (length below) p) (sound_from (suc (length below)) ps) h).0 in
      let next : List A = below ++ (make below p ∷ []) in
      let whole : List A = values_on make next ps in
      let n : length next ≡ length below + 1 = length_push below (make below p) in
      let z : length below + 0 ≡ length below = add-zero (length below) in
      let at : get_or whole (length below) d ≡ get_or next (length below) d = values_keep make next ps (length below) d (omega (arith, n)) in
      let is : get_or next (length below) d ≡ make below p = get_or_at below (make below p) [] d (length below) refl in
      let same : make below p ≡ make whole p = local below whole (length below) p here (λ j lt. sym (values_keep make next ps j d (omega (arith, n)) ∙ get_or_append_left below (make below p ∷ []) d j lt)) in
      rw z (at ∙ is ∙ same)
  values_at_from below (p ∷ ps) (suc k) e h l =
      let next : List A = below ++ (make below p ∷ []) in
      let n : length next ≡ suc (length below) = length_push below (make below p) ∙ omega arith in
      let rest = (both_true (sound_part (length below) p) (sound_from (suc (length below)) ps) h).1 in
      let rest' : sound_from (length next) ps ≡ true = rw n rest in
      let z : length below + suc k ≡ length next + k = omega (arith, n) in
      rw z (values_at_from next ps k e rest' (omega arith))

  pub value_at : (ps : List Part) (k : ℕ) (e : Part) → sound ps ≡ true → k < length ps → get_or (values_on make [] ps) k d ≡ make (values_on make [] ps) (get_or ps k e)
  value_at ps k e h l =
      let z : 0 + k ≡ k = zero-add k in
      rw z at (values_at_from [] ps k e h l)

pub formula_local : Local formula_over (constant false)
formula_local xs ys i (Constant b) s same = refl
formula_local xs ys i (Letter a) s same = refl
formula_local xs ys i (Unary op f location) s same = ap (unary op) (same f (ltb-true f i s))
formula_local xs ys i (Binary op f g location) s same =
    let parts = both_true (ltb f i) (ltb g i) s in
    let a = same f (ltb-true f i parts.0) in
    let b = same g (ltb-true g i parts.1) in
    cc

pub locations_local : Local locations_over []
locations_local xs ys i (Constant b) s same = refl
locations_local xs ys i (Letter a) s same = refl
locations_local xs ys i (Unary op f location) s same = ap (λ (r : List ℕ). cond (temporal_prefix op) (location ∷ []) [] ++ r) (same f (ltb-true f i s))
locations_local xs ys i (Binary op f g location) s same =
    let parts = both_true (ltb f i) (ltb g i) s in
    let a = same f (ltb-true f i parts.0) in
    let b = same g (ltb-true g i parts.1) in
    cc

-- in a sound table the formula of a part is made from those of its operands
pub formula_at : (ps : List Part) (k : ℕ) (e : Part) → sound ps ≡ true → k < length ps → get_or (formulas ps) k (constant false) ≡ formula_over (formulas ps) (get_or ps k e)
formula_at = value_at formula_over (constant false) formula_local

pub locations_at : (ps : List Part) (k : ℕ) (e : Part) → sound ps ≡ true → k < length ps → get_or (locations ps) k [] ≡ locations_over (locations ps) (get_or ps k e)
locations_at = value_at locations_over [] locations_local

-- a formula has as many temporal operators as its part has locations
abbrev Agree : List Formula → List (List ℕ) → Type 0
Agree fs ls = (j : ℕ) → length (get_or ls j []) ≡ operators (get_or fs j (constant false))

location_one : (b : Bool) (l : ℕ) → length (cond b (l ∷ []) []) ≡ cond b 1 0
location_one true l = refl
location_one false l = refl

agree_over : (fs : List Formula) (ls : List (List ℕ)) → Agree fs ls → (p : Part) → length (locations_over ls p) ≡ operators (formula_over fs p)
agree_over fs ls h (Constant b) = refl
agree_over fs ls h (Letter a) = refl
agree_over fs ls h (Unary op f location) =
    let here : List ℕ = cond (temporal_prefix op) (location ∷ []) [] in
    let a = length-append here (get_or ls f []) in
    let b = location_one (temporal_prefix op) location in
    omega (arith, a, b, h f)
agree_over fs ls h (Binary op f g location) =
    let here : List ℕ = cond (temporal_infix op) (location ∷ []) [] in
    let a = length-append (get_or ls f []) (here ++ get_or ls g []) in
    let b = length-append here (get_or ls g []) in
    let c = location_one (temporal_infix op) location in
    omega (arith, a, b, c, h f, h g)

agree_push : (fs : List Formula) (ls : List (List ℕ)) → length fs ≡ length ls → Agree fs ls → (f : Formula) (l : List ℕ) → length l ≡ operators f → Agree (fs ++ (f ∷ [])) (ls ++ (l ∷ []))
agree_push fs ls n h f l e j =
    elim (cases_order j (length ls)) [
      | inl same ↦ rw (get_or_at ls l [] [] j (sym same), get_or_at fs f [] (constant false) j (n ∙ sym same)) e
      | inr other ↦ elim other [
        | inl lt ↦ rw (get_or_append_left ls (l ∷ []) [] j lt, get_or_append_left fs (f ∷ []) (constant false) j (omega arith)) (h j)
        | inr gt ↦
            let a : length (ls ++ (l ∷ [])) ≤ j = omega (arith, length_push ls l) in
            let b : length (fs ++ (f ∷ [])) ≤ j = omega (arith, length_push fs f) in
            rw (get_or_past (ls ++ (l ∷ [])) j [] a, get_or_past (fs ++ (f ∷ [])) j (constant false) b) refl
      ]
    ]

agree_values : (fs : List Formula) (ls : List (List ℕ)) → length fs ≡ length ls → Agree fs ls → (ps : List Part) → Agree (values_on formula_over fs ps) (values_on locations_over ls ps)
agree_values fs ls n h [] = h
agree_values fs ls n h (p ∷ ps) =
    let m : length (fs ++ (formula_over fs p ∷ [])) ≡ length (ls ++ (locations_over ls p ∷ [])) = omega (arith, length_push fs (formula_over fs p), length_push ls (locations_over ls p)) in
    agree_values (fs ++ (formula_over fs p ∷ [])) (ls ++ (locations_over ls p ∷ [])) m (agree_push fs ls n h (formula_over fs p) (locations_over ls p) (agree_over fs ls h p)) ps

pub locations_count : (ps : List Part) → length (whole_locations ps) ≡ operators (whole_formula ps)
locations_count ps = agree_values [] [] refl (λ j. refl) ps (length ps - 1)
