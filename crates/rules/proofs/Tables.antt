-- A reader's parts and frames, as one is added or taken away.
use Rattle.std.proofs.Common.{◌≡◌, ℕ, ◌+◌, ◌-◌, ◌<◌, ◌≤◌, true, false, cond, List, [], ◌∷◌, ◌++◌, length, get_or, take, sym, refl, ap, ◌∙◌, ap₂, append_assoc, zero-add, arith}
use Rattle.std.proofs.lemmas.List.{get_or_append_left, get_or_at, length_push, take_more, take_more_set, append-nil, length-take-le}
use Rattle.std.proofs.lemmas.Bool.{ltb-true, lt-ltb}
use Rattle.formulas.specs.declared.Part.{Part}
use Rattle.formulas.specs.Formula.{Formula, constant, temporal_infix}
use Rattle.formulas.specs.Table.{values_on, formula_over, formulas, locations_over, locations, whole_formula, whole_locations}
use Rattle.formulas.proofs.Values.{both_true, values_length, values_push}
use Rattle.formulas.proofs.Machine as machine
use Rattle.rules.specs.declared.reader.Frame.{Frame}
use Rattle.rules.specs.declared.reader.Frame.TheVariants.{Bracket, Waiting, Halfway}
use Rattle.rules.specs.declared.reader.Reader.{Reader}
use Rattle.rules.specs.Reading.{parts_of, frames_of, frame_over, stack_on, stack, frame_locations, open_locations, left_within, lefts_within, with_part, with_frame, less_frame, top_frame}

-- one value more
module _ {A : Type 0} (make : List A → Part → A) (d : A) (P : List Part) (p : Part) where
  values_count : length (values_on make [] P) ≡ length P
  values_count = values_length make [] P ∙ zero-add (length P)

  pub value_kept : (j : ℕ) → j < length P → get_or (values_on make [] (P ++ (p ∷ []))) j d ≡ get_or (values_on make [] P) j d
  value_kept j h =
      let n = values_count in
      rw (values_push make P p) (get_or_append_left (values_on make [] P) (make (values_on make [] P) p ∷ []) d j (omega (arith, n)))

  pub value_new : get_or (values_on make [] (P ++ (p ∷ []))) (length (P ++ (p ∷ [])) - 1) d ≡ make (values_on make [] P) p
  value_new =
      let e : length (P ++ (p ∷ [])) - 1 ≡ length P = omega (arith, length_push P p) in
      rw (e, values_push make P p) (get_or_at (values_on make [] P) (make (values_on make [] P) p) [] d (length P) values_count)

pub whole_new : (P : List Part) (p : Part) → whole_formula (P ++ (p ∷ [])) ≡ formula_over (formulas P) p
whole_new P p = value_new formula_over (constant false) P p

pub locations_new : (P : List Part) (p : Part) → whole_locations (P ++ (p ∷ [])) ≡ locations_over (locations P) p
locations_new P p = value_new locations_over [] P p

-- one frame more
pub stack_push : (fs : List Formula) (K : List machine.Frame) (F : List Frame) (x : Frame) → stack_on fs K (F ++ (x ∷ [])) ≡ frame_over fs x ∷ stack_on fs K F
stack_push fs K [] x = refl
stack_push fs K (y ∷ F) x = stack_push fs (frame_over fs y ∷ K) F x

pub open_push : (ls : List (List ℕ)) (F : List Frame) (x : Frame) → open_locations ls (F ++ (x ∷ [])) ≡ open_locations ls F ++ frame_locations ls x
open_push ls [] x = append-nil (frame_locations ls x)
open_push ls (y ∷ F) x = ap (λ (r : List ℕ). frame_locations ls y ++ r) (open_push ls F x) ∙ sym (append_assoc (frame_locations ls y) (open_locations ls F) (frame_locations ls x))

pub lefts_push : (n : ℕ) (F : List Frame) (x : Frame) → lefts_within n F ≡ true → left_within n x ≡ true → lefts_within n (F ++ (x ∷ [])) ≡ true
lefts_push n [] x h k = rw k
lefts_push n (y ∷ F) x h k =
    let r = both_true (left_within n y) (lefts_within n F) h in
    let a = r.0 in
    let b = lefts_push n F x r.1 k in
    rw (a, b)

pub lefts_pop : (n : ℕ) (F : List Frame) (x : Frame) → lefts_within n (F ++ (x ∷ [])) ≡ true → (lefts_within n F ≡ true) × (left_within n x ≡ true)
lefts_pop n [] x h = (refl, (both_true (left_within n x) true h).0)
lefts_pop n (y ∷ F) x h =
    let r = both_true (left_within n y) (lefts_within n (F ++ (x ∷ []))) h in
    let q = lefts_pop n F x r.1 in
    let a = r.0 in
    let b = q.0 in
    (rw (a, b), q.1)

left_more : (n m : ℕ) (x : Frame) → n ≤ m → left_within n x ≡ true → left_within m x ≡ true
left_more n m Bracket le h = refl
left_more n m (Waiting op location) le h = refl
left_more n m (Halfway op l location) le h = lt-ltb l m (omega (arith, ltb-true l n h))

pub lefts_more : (n m : ℕ) (F : List Frame) → n ≤ m → lefts_within n F ≡ true → lefts_within m F ≡ true
lefts_more n m [] le h = refl
lefts_more n m (y ∷ F) le h =
    let r = both_true (left_within n y) (lefts_within n F) h in
    let a = left_more n m y le r.0 in
    let b = lefts_more n m F le r.1 in
    rw (a, b)

-- frames mean the same over more parts
frame_kept : (fs gs : List Formula) (n : ℕ) (x : Frame) → left_within n x ≡ true → ((j : ℕ) → j < n → get_or gs j (constant false) ≡ get_or fs j (constant false)) → frame_over gs x ≡ frame_over fs x
frame_kept fs gs n Bracket h same = refl
frame_kept fs gs n (Waiting op location) h same = refl
frame_kept fs gs n (Halfway op l location) h same = ap (machine.halfway op) (same l (ltb-true l n h))

stack_same : (fs gs : List Formula) (K : List machine.Frame) (n : ℕ) (F : List Frame) → lefts_within n F ≡ true → ((j : ℕ) → j < n → get_or gs j (constant false) ≡ get_or fs j (constant false)) → stack_on gs K F ≡ stack_on fs K F
stack_same fs gs K n [] h same = refl
stack_same fs gs K n (y ∷ F) h same =
    let r = both_true (left_within n y) (lefts_within n F) h in
    let e = frame_kept fs gs n y r.0 same in
    ap (λ (z : machine.Frame). stack_on gs (z ∷ K) F) e ∙ stack_same fs gs (frame_over fs y ∷ K) n F r.1 same

pub stack_kept : (P : List Part) (p : Part) (F : List Frame) → lefts_within (length P) F ≡ true → stack (P ++ (p ∷ [])) F ≡ stack P F
stack_kept P p F h = stack_same (formulas P) (formulas (P ++ (p ∷ []))) [] (length P) F h (value_kept formula_over (constant false) P p)

frame_locations_kept : (ls ms : List (List ℕ)) (n : ℕ) (x : Frame) → left_within n x ≡ true → ((j : ℕ) → j < n → get_or ms j [] ≡ get_or ls j []) → frame_locations ms x ≡ frame_locations ls x
frame_locations_kept ls ms n Bracket h same = refl
frame_locations_kept ls ms n (Waiting op location) h same = refl
frame_locations_kept ls ms n (Halfway op l location) h same = ap (λ (r : List ℕ). r ++ cond (temporal_infix op) (location ∷ []) []) (same l (ltb-true l n h))

open_same : (ls ms : List (List ℕ)) (n : ℕ) (F : List Frame) → lefts_within n F ≡ true → ((j : ℕ) → j < n → get_or ms j [] ≡ get_or ls j []) → open_locations ms F ≡ open_locations ls F
open_same ls ms n [] h same = refl
open_same ls ms n (y ∷ F) h same =
    let r = both_true (left_within n y) (lefts_within n F) h in
    ap₂ (λ (a b : List ℕ). a ++ b) (frame_locations_kept ls ms n y r.0 same) (open_same ls ms n F r.1 same)

pub open_kept : (P : List Part) (p : Part) (F : List Frame) → lefts_within (length P) F ≡ true → open_locations (locations (P ++ (p ∷ []))) F ≡ open_locations (locations P) F
open_kept P p F h = open_same (locations P) (locations (P ++ (p ∷ []))) (length P) F h (value_kept locations_over [] P p)

-- the lists of a changed reader
pub parts_with : (r : Reader) (p : Part) → r.count < length r.parts → parts_of (with_part r p) ≡ parts_of r ++ (p ∷ [])
parts_with r p h = take_more_set r.parts r.count p h

pub frames_with : (r : Reader) (x : Frame) → r.depth < length r.frames → frames_of (with_frame r x) ≡ frames_of r ++ (x ∷ [])
frames_with r x h = take_more_set r.frames r.depth x h

pub frames_less : (r : Reader) → 0 < r.depth → r.depth ≤ length r.frames → frames_of r ≡ frames_of (less_frame r) ++ (top_frame r ∷ [])
frames_less r h k =
    let e : r.depth ≡ (r.depth - 1) + 1 = omega arith in
    ap (λ (n : ℕ). take n r.frames) e ∙ take_more r.frames (r.depth - 1) Bracket (omega arith)

pub parts_count : (r : Reader) → r.count ≤ length r.parts → length (parts_of r) ≡ r.count
parts_count r h = length-take-le r.count r.parts h
