-- A frame that takes its operand, and all that bind tighter than a level.
use Rattle.std.proofs.Common.{◌≡◌, ℕ, ◌-◌, ◌<◌, ◌≤◌, true, cond, ltb, List, [], ◌∷◌, ◌++◌, length, get_or, take, sym, refl, ap, ◌∙◌, ap₂, append_assoc, arith, length-set}
use Rattle.std.proofs.lemmas.Bool.{lt-ltb}
use Rattle.formulas.specs.declared.Part.{Part}
use Rattle.formulas.specs.Formula.{Formula, temporal_infix}
use Rattle.formulas.specs.Table.{formula_over, formulas, locations_over, locations, whole_formula, whole_locations, sound_part}
use Rattle.formulas.proofs.Values.{sound_push}
use Rattle.formulas.proofs.Machine as machine
use Rattle.formulas.proofs.Machine.{reduce, apply, bound, bound_top}
use Rattle.formulas.proofs.Complete.{reduce_takes, reduce_stays}
use Rattle.rules.specs.declared.reader.Frame.{Frame}
use Rattle.rules.specs.declared.reader.Frame.TheVariants.{Bracket, Waiting, Halfway}
use Rattle.rules.specs.declared.reader.Reader.{Reader}
use Rattle.rules.specs.Reading.{parts_of, frames_of, binds, frame_over, stack, frame_locations, open_locations, all_locations, left_within, Fitting, Tables, less_frame, top_frame, completed, applied, Reduced}
use Rattle.rules.proofs.Tables.{whole_new, locations_new, stack_push, open_push, lefts_pop, lefts_more, stack_kept, open_kept, parts_with, frames_less, parts_count}

pub bound_is : (fs : List Formula) (x : Frame) → bound (frame_over fs x) ≡ binds x
bound_is fs Bracket = refl
bound_is fs (Waiting op location) = refl
bound_is fs (Halfway op l location) = refl

completed_sound : (n : ℕ) (x : Frame) → 0 < n → left_within n x ≡ true → sound_part n (completed x (n - 1)) ≡ true
completed_sound n Bracket some h = refl
completed_sound n (Waiting op location) some h = lt-ltb (n - 1) n (omega arith)
completed_sound n (Halfway op l location) some h =
    let e : ltb (n - 1) n ≡ true = lt-ltb (n - 1) n (omega arith) in
    rw (h, e)

completed_formula : (P : List Part) (x : Frame) → 0 < binds x → formula_over (formulas P) (completed x (length P - 1)) ≡ apply (frame_over (formulas P) x) (whole_formula P)
completed_formula P Bracket h = absurd (omega arith)
completed_formula P (Waiting op location) h = refl
completed_formula P (Halfway op l location) h = refl

completed_locations : (P : List Part) (x : Frame) → 0 < binds x → locations_over (locations P) (completed x (length P - 1)) ≡ frame_locations (locations P) x ++ whole_locations P
completed_locations P Bracket h = absurd (omega arith)
completed_locations P (Waiting op location) h = refl
completed_locations P (Halfway op l location) h = sym (append_assoc (get_or (locations P) l []) (cond (temporal_infix op) (location ∷ []) []) (whole_locations P))

module _ (P : List Part) (F : List Frame) (x : Frame) (some : 0 < length P) (takes : 0 < binds x) (fit : Fitting P (F ++ (x ∷ []))) where
  abbrev new : List Part
  new = P ++ (completed x (length P - 1) ∷ [])

  fit_new : Fitting new F
  fit_new =
      let l = lefts_pop (length P) F x fit.lefts in
      let n : length P ≤ length new = omega (arith, Rattle.std.proofs.lemmas.List.length_push P (completed x (length P - 1))) in
      record { operands = sound_push P (completed x (length P - 1)) fit.operands (completed_sound (length P) x some l.1); lefts = lefts_more (length P) (length new) F n l.0 }

  value_new : (c : ℕ) → c < binds x → reduce c (stack new F) (whole_formula new) ≡ reduce c (stack P (F ++ (x ∷ []))) (whole_formula P)
  value_new c h =
      let l = lefts_pop (length P) F x fit.lefts in
      let a = stack_kept P (completed x (length P - 1)) F l.0 in
      let b = whole_new P (completed x (length P - 1)) ∙ completed_formula P x takes in
      let k : c < bound (frame_over (formulas P) x) = rw (bound_is (formulas P) x) h in
      let t = reduce_takes c (frame_over (formulas P) x) (stack P F) (whole_formula P) k in
      let s = stack_push (formulas P) [] F x in
      ap₂ (reduce c) a b ∙ sym t ∙ ap (λ (K : List machine.Frame). reduce c K (whole_formula P)) (sym s)

  located_new : all_locations new F ≡ all_locations P (F ++ (x ∷ []))
  located_new =
      let l = lefts_pop (length P) F x fit.lefts in
      let a = open_kept P (completed x (length P - 1)) F l.0 in
      let b = locations_new P (completed x (length P - 1)) ∙ completed_locations P x takes in
      let s = open_push (locations P) F x in
      ap₂ (λ (u v : List ℕ). u ++ v) a b ∙ sym (append_assoc (open_locations (locations P) F) (frame_locations (locations P) x) (whole_locations P)) ∙ ap (λ (u : List ℕ). u ++ whole_locations P) (sym s)

-- in the midst of reducing the reader r: q reduces to what r does
pub record Reducing (c : ℕ) (r : Reader) (n : ℕ) (q : Reader) : Type 0 where
  pub tables : Tables q n
  pub some : 0 < q.count
  pub value : reduce c (stack (parts_of q) (frames_of q)) (whole_formula (parts_of q)) ≡ reduce c (stack (parts_of r) (frames_of r)) (whole_formula (parts_of r))
  pub located : all_locations (parts_of q) (frames_of q) ≡ all_locations (parts_of r) (frames_of r)
  pub mode : q.mode ≡ r.mode
  pub temporals : q.temporals ≡ r.temporals

pub reducing_step : (c : ℕ) (r : Reader) (n : ℕ) (q : Reader) → n ≤ 128 → Reducing c r n q → 0 < q.depth → c < binds (top_frame q) → Reducing c r n (applied q)
reducing_step c r n q short h some_open k =
    let t = h.tables in
    let P = parts_of q in
    let F = frames_of (less_frame q) in
    let x = top_frame q in
    let room = t.room in
    let pl = t.parts_length in
    let fl = t.frames_length in
    let n1 : length P ≡ q.count = parts_count q (omega arith) in
    let f : frames_of q ≡ F ++ (x ∷ []) = frames_less q some_open (omega arith) in
    let fit : Fitting P (F ++ (x ∷ [])) = rw f at t.fitting in
    let some : 0 < length P = omega (arith, h.some) in
    let takes : 0 < binds x = omega arith in
    let p : parts_of (applied q) ≡ P ++ (completed x (q.count - 1) ∷ []) = parts_with (less_frame q) (completed x (q.count - 1)) (omega arith) in
    let p2 : parts_of (applied q) ≡ new P F x some takes fit = p ∙ ap (λ (m : ℕ). P ++ (completed x (m - 1) ∷ [])) (sym n1) in
    let v = value_new P F x some takes fit c k in
    let l = located_new P F x some takes fit in
    let len : length (applied q).parts ≡ 128 = length-set q.parts q.count (completed x (q.count - 1)) ∙ pl in
    record {
      tables = record { fitting = rw p2 (fit_new P F x some takes fit); room = omega arith; parts_length = len; frames_length = fl };
      some = omega arith;
      value = rw p2 (v ∙ ap (λ (g : List Frame). reduce c (stack P g) (whole_formula P)) (sym f) ∙ h.value);
      located = rw p2 (l ∙ ap (λ (g : List Frame). all_locations P g) (sym f) ∙ h.located);
      mode = h.mode;
      temporals = h.temporals;
    }

reduced_from : (c : ℕ) (r : Reader) (n : ℕ) (q : Reader) → Reducing c r n q → bound_top (stack (parts_of q) (frames_of q)) ≤ c → Reduced c r n q
reduced_from c r n q h k =
    record { tables = h.tables; some = h.some; value = sym (reduce_stays c (stack (parts_of q) (frames_of q)) (whole_formula (parts_of q)) k) ∙ h.value; located = h.located; mode = h.mode; temporals = h.temporals }

pub reduced_none : (c : ℕ) (r : Reader) (n : ℕ) (q : Reader) → Reducing c r n q → q.depth ≤ 0 → Reduced c r n q
reduced_none c r n q h k =
    let z : q.depth ≡ 0 = omega arith in
    let e : frames_of q ≡ [] = ap (λ (m : ℕ). take m q.frames) z in
    let s : stack (parts_of q) (frames_of q) ≡ [] = ap (stack (parts_of q)) e in
    reduced_from c r n q h (rw s (omega arith))

pub reduced_stop : (c : ℕ) (r : Reader) (n : ℕ) (q : Reader) → n ≤ 128 → Reducing c r n q → 0 < q.depth → binds (top_frame q) ≤ c → Reduced c r n q
reduced_stop c r n q short h some_open k =
    let t = h.tables in
    let room = t.room in
    let fl = t.frames_length in
    let f : frames_of q ≡ frames_of (less_frame q) ++ (top_frame q ∷ []) = frames_less q some_open (omega arith) in
    let s = ap (stack (parts_of q)) f ∙ stack_push (formulas (parts_of q)) [] (frames_of (less_frame q)) (top_frame q) in
    let b = bound_is (formulas (parts_of q)) (top_frame q) in
    let e : bound_top (stack (parts_of q) (frames_of q)) ≡ binds (top_frame q) = ap bound_top s ∙ b in
    reduced_from c r n q h (omega arith)
