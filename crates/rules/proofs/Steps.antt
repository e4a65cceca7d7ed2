-- What each sign does to a reader, against the machine.
use Rattle.std.proofs.Common.{◌≡◌, ℕ, zero, suc, ◌+◌, ◌-◌, ◌<◌, ◌≤◌, Bool, true, false, cond, List, [], ◌∷◌, ◌++◌, length, get_or, take, Ok, Err, Result, sym, refl, ap, ◌∙◌, ap₂, append_assoc, add-zero, arith, length-set}
use Rattle.std.proofs.lemmas.List.{length_push, append-nil}
use Rattle.std.proofs.lemmas.Bool.{lt-ltb}
use Rattle.formulas.specs.declared.Part.{Part}
use Rattle.formulas.specs.declared.Part.TheVariants.{Constant, Letter}
use Rattle.formulas.specs.declared.Infix.{Infix}
use Rattle.formulas.specs.declared.Prefix.{Prefix}
use Rattle.formulas.specs.declared.Sign.{Sign}
use Rattle.formulas.specs.declared.Sign.TheVariants.{Open, Close, Before}
use Rattle.formulas.specs.declared.Sign.TheVariants.{Constant as ConstantSign, Letter as LetterSign}
use Rattle.formulas.specs.Formula.{Formula, constant, letter, temporal_prefix, temporal_infix}
use Rattle.formulas.specs.Grammar.{level}
use Rattle.formulas.specs.Table.{formula_over, formulas, locations_over, locations, whole_formula, whole_locations, counted_from, sound_part}
use Rattle.formulas.proofs.Values.{sound_push}
use Rattle.formulas.proofs.Machine as machine
use Rattle.formulas.proofs.Machine.{State, wanting, having, dashed, failed, reduce, push, close, close_top, step, bound_top, bracket, waiting, halfway}
use Rattle.formulas.proofs.Sound.{right_low, reduce_bound, Alive}
use Rattle.formulas.proofs.Temporal.{temporal_of}
use Rattle.rules.specs.declared.reader.Frame.{Frame}
use Rattle.rules.specs.declared.reader.Frame.TheVariants.{Bracket, Waiting, Halfway}
use Rattle.rules.specs.declared.reader.Mode.TheVariants.{Wanting, Having}
use Rattle.rules.specs.declared.reader.Reader.{Reader}
use Rattle.rules.specs.Reading.{parts_of, frames_of, binds, frame_over, stack, state, state_of, frame_locations, open_locations, all_locations, mode_locations, left_within, Fitting, Tables, Sane, with_part, with_frame, less_frame, in_mode, with_temporals, top_frame, one_if, Reduced, Moved, Joined, Joining, Stopped, no_rule, tenth, Stepped, Known}
use Rattle.rules.specs.Refusal.{rule_fault}
use Rattle.faults.specs.declared.Cause.TheVariants.{UnexpectedByte, TooManyOperators}
use Rattle.faults.specs.declared.Fault.{Fault}
use Rattle.rules.proofs.Tables.{whole_new, locations_new, stack_push, open_push, lefts_push, lefts_pop, lefts_more, stack_kept, open_kept, parts_with, frames_with, frames_less, parts_count}
use Rattle.rules.proofs.Reduce.{bound_is}

-- one number more
pub counted_push : (k n : ℕ) → counted_from k n ++ ((k + n) ∷ []) ≡ counted_from k (n + 1)
counted_push k zero = let e : k + 0 ≡ k = add-zero k in rw e
counted_push k (suc n) =
    let e : k + suc n ≡ suc k + n = omega arith in
    let s : suc n + 1 ≡ suc (n + 1) = omega arith in
    rw (e, s) (ap (λ (r : List ℕ). k ∷ r) (counted_push (suc k) n))

-- the location of an operator, temporal or not, behind those before
pub counted_more : (temporal : Bool) (n location : ℕ) → location ≡ cond temporal (n + 1) 0 → counted_from 1 n ++ cond temporal (location ∷ []) [] ≡ counted_from 1 (n + one_if temporal)
counted_more true n location e =
    let k : location ≡ 1 + n = e ∙ omega arith in
    rw k (counted_push 1 n)
counted_more false n location e = let z : n + 0 ≡ n = add-zero n in rw z (append-nil (counted_from 1 n))

-- the tables with a part more
tables_part : (r : Reader) (p : Part) (n : ℕ) → n < 128 → Tables r n → sound_part r.count p ≡ true → Tables (with_part r p) (n + 1)
tables_part r p n h t s =
    let room = t.room in
    let pl = t.parts_length in
    let k = parts_count r (omega arith) in
    let e = parts_with r p (omega arith) in
    let f = t.fitting in
    let s' : sound_part (length (parts_of r)) p ≡ true = rw k s in
    let g : Fitting (parts_of r ++ (p ∷ [])) (frames_of r) = record { operands = sound_push (parts_of r) p f.operands s'; lefts = lefts_more (length (parts_of r)) (length (parts_of r ++ (p ∷ []))) (frames_of r) (omega (arith, length_push (parts_of r) p)) f.lefts } in
    record { fitting = rw e g; room = omega arith; parts_length = length-set r.parts r.count p ∙ pl; frames_length = t.frames_length }

-- the tables with a frame more
tables_frame : (r : Reader) (x : Frame) (n : ℕ) → n < 128 → Tables r n → left_within r.count x ≡ true → Tables (with_frame r x) (n + 1)
tables_frame r x n h t s =
    let room = t.room in
    let pl = t.parts_length in
    let fl = t.frames_length in
    let k = parts_count r (omega arith) in
    let e = frames_with r x (omega arith) in
    let f = t.fitting in
    let s' : left_within (length (parts_of r)) x ≡ true = rw k s in
    let g : Fitting (parts_of r) (frames_of r ++ (x ∷ [])) = record { operands = f.operands; lefts = lefts_push (length (parts_of r)) (frames_of r) x f.lefts s' } in
    record { fitting = rw e g; room = omega arith; parts_length = pl; frames_length = length-set r.frames r.depth x ∙ fl }

-- an operand of one sign
pub operand_moves : (r : Reader) (n : ℕ) (s : Sign) (p : Part) (f : Formula)
    → Sane r n → n < 128 → r.mode ≡ Wanting → sound_part r.count p ≡ true
    → formula_over (formulas (parts_of r)) p ≡ f → locations_over (locations (parts_of r)) p ≡ []
    → step (wanting (stack (parts_of r) (frames_of r))) s ≡ having (stack (parts_of r) (frames_of r)) f → temporal_of s ≡ false
    → Moved r s n (in_mode (with_part r p) Having)
operand_moves r n s p f h lt m sp fe le se te =
    let t = h.tables in
    let room = t.room in
    let pl = t.parts_length in
    let P = parts_of r in
    let F = frames_of r in
    let q = in_mode (with_part r p) Having in
    let e : parts_of q ≡ P ++ (p ∷ []) = parts_with r p (omega arith) in
    let tb = tables_part r p n lt t sp in
    let k = stack_kept P p F t.fitting.lefts in
    let o = open_kept P p F t.fitting.lefts in
    let w = whole_new P p ∙ fe in
    let l = locations_new P p ∙ le in
    let z : r.temporals + 0 ≡ r.temporals = add-zero r.temporals in
    let num : mode_locations P F Wanting ≡ counted_from 1 r.temporals = rw m at h.numbered in
    let st : state_of r ≡ wanting (stack P F) = ap (state P F) m in
    record {
      sane = record {
        tables = record { fitting = tb.fitting; room = tb.room; parts_length = tb.parts_length; frames_length = tb.frames_length };
        short = omega arith;
        part = omega arith;
        numbered = rw e (ap₂ (λ (a b : List ℕ). a ++ b) o l ∙ append-nil (open_locations (locations P) F) ∙ num);
        nine = h.nine;
      };
      state_is = rw e (ap₂ having k w) ∙ sym se ∙ ap (λ (x : State). step x s) (sym st);
      temporals_are = rw (te, z);
    }

-- a frame that waits for an operand: a bracket, or a prefix operator
pub frame_moves : (r : Reader) (n : ℕ) (s : Sign) (x : Frame) (y : machine.Frame) (c : ℕ)
    → Sane r n → n < 128 → r.mode ≡ Wanting → left_within r.count x ≡ true → frame_over (formulas (parts_of r)) x ≡ y
    → counted_from 1 r.temporals ++ frame_locations (locations (parts_of r)) x ≡ counted_from 1 c → c ≤ 9 → c ≡ r.temporals + one_if (temporal_of s)
    → step (wanting (stack (parts_of r) (frames_of r))) s ≡ wanting (y ∷ stack (parts_of r) (frames_of r))
    → Moved r s n (with_frame (with_temporals r c) x)
frame_moves r n s x y c h lt m lw fe le nine ce se =
    let t = h.tables in
    let room = t.room in
    let fl = t.frames_length in
    let P = parts_of r in
    let F = frames_of r in
    let q = with_frame (with_temporals r c) x in
    let e : frames_of q ≡ F ++ (x ∷ []) = frames_with r x (omega arith) in
    let tb = tables_frame r x n lt t lw in
    let num : mode_locations P F Wanting ≡ counted_from 1 r.temporals = rw m at h.numbered in
    let st : state_of r ≡ wanting (stack P F) = ap (state P F) m in
    let o : open_locations (locations P) (F ++ (x ∷ [])) ≡ counted_from 1 c = open_push (locations P) F x ∙ ap (λ (a : List ℕ). a ++ frame_locations (locations P) x) num ∙ le in
    let k : stack P (F ++ (x ∷ [])) ≡ y ∷ stack P F = stack_push (formulas P) [] F x ∙ ap (λ (z : machine.Frame). z ∷ stack P F) fe in
    record {
      sane = record {
        tables = record { fitting = tb.fitting; room = tb.room; parts_length = tb.parts_length; frames_length = tb.frames_length };
        short = omega arith;
        part = rw m tt;
        numbered = rw (m, e) o;
        nine = nine;
      };
      state_is = rw (m, e) (ap wanting k ∙ sym se);
      temporals_are = ce;
    }

only_bracket : (x : Frame) → binds x ≤ 0 → x ≡ Bracket
only_bracket Bracket h = refl
only_bracket (Waiting op location) h = absurd (omega arith)
only_bracket (Halfway op l location) h = absurd (omega (arith, right_low op))

-- after the frames inside a bracket are reduced, the bracket is on top
closes : (r : Reader) (n : ℕ) (q : Reader) → n < 128 → Reduced 0 r n q → 0 < q.depth → frames_of q ≡ frames_of (less_frame q) ++ (Bracket ∷ [])
closes r n q lt h d =
    let t = h.tables in
    let room = t.room in
    let fl = t.frames_length in
    let P = parts_of q in
    let f : frames_of q ≡ frames_of (less_frame q) ++ (top_frame q ∷ []) = frames_less q d (omega arith) in
    let s : stack P (frames_of q) ≡ frame_over (formulas P) (top_frame q) ∷ stack P (frames_of (less_frame q)) = ap (stack P) f ∙ stack_push (formulas P) [] (frames_of (less_frame q)) (top_frame q) in
    let b : bound_top (reduce 0 (stack (parts_of r) (frames_of r)) (whole_formula (parts_of r))).0 ≤ 0 = reduce_bound 0 (stack (parts_of r) (frames_of r)) (whole_formula (parts_of r)) in
    let v : stack P (frames_of q) ≡ (reduce 0 (stack (parts_of r) (frames_of r)) (whole_formula (parts_of r))).0 = ap (λ (x : List machine.Frame × Formula). x.0) h.value in
    let e : bound_top (stack P (frames_of q)) ≡ binds (top_frame q) = ap bound_top s ∙ bound_is (formulas P) (top_frame q) in
    let w : bound_top (stack P (frames_of q)) ≡ bound_top (reduce 0 (stack (parts_of r) (frames_of r)) (whole_formula (parts_of r))).0 = ap bound_top v in
    let x : top_frame q ≡ Bracket = only_bracket (top_frame q) (omega arith) in
    f ∙ ap (λ (y : Frame). frames_of (less_frame q) ++ (y ∷ [])) x

pub close_moves : (r : Reader) (n : ℕ) (q : Reader) → Sane r n → n < 128 → r.mode ≡ Having → Reduced 0 r n q → 0 < q.depth → Moved r Close n (less_frame q)
close_moves r n q sane lt m h d =
    let t = h.tables in
    let room = t.room in
    let P = parts_of q in
    let F = frames_of (less_frame q) in
    let f = closes r n q lt h d in
    let fit : Fitting P (F ++ (Bracket ∷ [])) = rw f at t.fitting in
    let l = lefts_pop (length P) F Bracket fit.lefts in
    let mq : q.mode ≡ Having = h.mode ∙ m in
    let st : state_of r ≡ having (stack (parts_of r) (frames_of r)) (whole_formula (parts_of r)) = ap (state (parts_of r) (frames_of r)) m in
    let s : stack P (frames_of q) ≡ bracket ∷ stack P F = ap (stack P) f ∙ stack_push (formulas P) [] F Bracket in
    let v : close (reduce 0 (stack (parts_of r) (frames_of r)) (whole_formula (parts_of r))) ≡ having (stack P F) (whole_formula P) = ap close (sym h.value) ∙ ap (λ (K : List machine.Frame). close_top K (whole_formula P)) s in
    let o : all_locations P F ≡ all_locations P (frames_of q) = ap (λ (a : List ℕ). a ++ whole_locations P) (sym (ap (open_locations (locations P)) f ∙ open_push (locations P) F Bracket ∙ append-nil (open_locations (locations P) F))) in
    let num : all_locations (parts_of r) (frames_of r) ≡ counted_from 1 r.temporals = rw m at sane.numbered in
    let tq = h.temporals in
    let z : r.temporals + 0 ≡ r.temporals = add-zero r.temporals in
    let sm = h.some in
    let ni = sane.nine in
    record {
      sane = record {
        tables = record { fitting = record { operands = t.fitting.operands; lefts = l.0 }; room = omega arith; parts_length = t.parts_length; frames_length = t.frames_length };
        short = omega arith;
        part = rw mq sm;
        numbered = rw (mq, tq) (o ∙ h.located ∙ num);
        nine = omega arith;
      };
      state_is = ap (state P F) mq ∙ sym v ∙ ap (λ (x : State). step x Close) (sym st);
      temporals_are = tq ∙ sym z;
    }

pub close_fails : (r : Reader) (n : ℕ) (q : Reader) → r.mode ≡ Having → Reduced 0 r n q → q.depth ≡ 0 → step (state_of r) Close ≡ failed
close_fails r n q m h d =
    let P = parts_of q in
    let st : state_of r ≡ having (stack (parts_of r) (frames_of r)) (whole_formula (parts_of r)) = ap (state (parts_of r) (frames_of r)) m in
    let f : frames_of q ≡ [] = ap (λ (k : ℕ). take k q.frames) d in
    let s : stack P (frames_of q) ≡ [] = ap (stack P) f in
    ap (λ (x : State). step x Close) st ∙ ap close (sym h.value) ∙ ap (λ (K : List machine.Frame). close_top K (whole_formula P)) s

pub join_moves : (r : Reader) (op : Infix) (n : ℕ) (location : ℕ) (q : Reader)
    → n < 128 → r.temporals + one_if (temporal_infix op) ≤ 9 → location ≡ cond (temporal_infix op) (r.temporals + 1) 0
    → all_locations (parts_of r) (frames_of r) ≡ counted_from 1 r.temporals
    → Reduced (level op) (with_temporals r (r.temporals + one_if (temporal_infix op))) n q
    → Joined r op n (in_mode (with_frame q (Halfway op (q.count - 1) location)) Wanting)
join_moves r op n location q lt nine le num h =
    let t = h.tables in
    let room = t.room in
    let pl = t.parts_length in
    let fl = t.frames_length in
    let sm = h.some in
    let P = parts_of q in
    let F = frames_of q in
    let x = Halfway op (q.count - 1) location in
    let k = parts_count q (omega arith) in
    let e : frames_of (with_frame q x) ≡ F ++ (x ∷ []) = frames_with q x (omega arith) in
    let lw : left_within q.count x ≡ true = lt-ltb (q.count - 1) q.count (omega arith) in
    let tb = tables_frame q x n lt t lw in
    let w : get_or (formulas P) (q.count - 1) (constant false) ≡ whole_formula P = ap (λ (i : ℕ). get_or (formulas P) (i - 1) (constant false)) (sym k) in
    let wl : get_or (locations P) (q.count - 1) [] ≡ whole_locations P = ap (λ (i : ℕ). get_or (locations P) (i - 1) []) (sym k) in
    let s : stack P (F ++ (x ∷ [])) ≡ halfway op (whole_formula P) ∷ stack P F = stack_push (formulas P) [] F x ∙ ap (λ (f : Formula). halfway op f ∷ stack P F) w in
    let v : push op (stack P F, whole_formula P) ≡ push op (reduce (level op) (stack (parts_of r) (frames_of r)) (whole_formula (parts_of r))) = ap (push op) h.value in
    let loc : List ℕ = cond (temporal_infix op) (location ∷ []) [] in
    let o : open_locations (locations P) (F ++ (x ∷ [])) ≡ all_locations P F ++ loc = open_push (locations P) F x ∙ ap (λ (a : List ℕ). open_locations (locations P) F ++ (a ++ loc)) wl ∙ sym (append_assoc (open_locations (locations P) F) (whole_locations P) loc) in
    let c : all_locations P F ++ loc ≡ counted_from 1 (r.temporals + one_if (temporal_infix op)) = ap (λ (a : List ℕ). a ++ loc) (h.located ∙ num) ∙ counted_more (temporal_infix op) r.temporals location le in
    let tq = h.temporals in
    record {
      sane = record {
        tables = record { fitting = tb.fitting; room = tb.room; parts_length = tb.parts_length; frames_length = tb.frames_length };
        short = omega arith;
        part = tt;
        numbered = rw (e, tq) (o ∙ c);
        nine = omega arith;
      };
      state_is = ap wanting (ap (stack P) e ∙ s) ∙ v;
      temporals_are = tq;
    }

-- where the machine fails
pub stops : (r : Reader) (s : Sign) (n : ℕ) (f : Fault) (st : State) → state_of r ≡ st → f ≡ rule_fault UnexpectedByte n → step st s ≡ failed → Stopped r s n f
stops r s n f st e k h = rw k (no_rule (ap (λ (x : State). step x s) e ∙ h))

-- a bracket opens, or a prefix operator
pub open_moves : (r : Reader) (n : ℕ) → Sane r n → n < 128 → r.mode ≡ Wanting → Moved r Open n (with_frame r Bracket)
open_moves r n h lt m =
    let z : r.temporals + 0 ≡ r.temporals = add-zero r.temporals in
    frame_moves r n Open Bracket bracket r.temporals h lt m refl refl (append-nil (counted_from 1 r.temporals)) h.nine (sym z) refl

pub prefix_moves : (r : Reader) (n : ℕ) (op : Prefix) (location : ℕ) → Sane r n → n < 128 → r.mode ≡ Wanting
    → r.temporals + one_if (temporal_prefix op) ≤ 9 → location ≡ cond (temporal_prefix op) (r.temporals + 1) 0
    → Moved r (Before op) n (with_frame (with_temporals r (r.temporals + one_if (temporal_prefix op))) (Waiting op location))
prefix_moves r n op location h lt m nine le =
    frame_moves r n (Before op) (Waiting op location) (waiting op) (r.temporals + one_if (temporal_prefix op)) h lt m refl refl (counted_more (temporal_prefix op) r.temporals location le) nine refl refl

-- a tenth temporal operator, where the machine would go on
pub tenth_stops : (r : Reader) (s : Sign) (n : ℕ) (f : Fault) (st : State) → state_of r ≡ st → f ≡ rule_fault TooManyOperators n → temporal_of s ≡ true → r.temporals ≡ 9 → Alive (step st s) → Stopped r s n f
tenth_stops r s n f st e k t ten a =
    let w : step (state_of r) s ≡ step st s = ap (λ (x : State). step x s) e in
    rw k (tenth (rw w a) t ten)

-- an infix operator that was read by `join`
pub joined_steps : (r : Reader) (s : Sign) (op : Infix) (n : ℕ) (q : Reader) (o : Result (Unit {0}) Fault) (st : State) → state_of r ≡ st → step st s ≡ push op (reduce (level op) (stack (parts_of r) (frames_of r)) (whole_formula (parts_of r))) → temporal_of s ≡ temporal_infix op → Joining r op n q o → Stepped r s n q o
joined_steps r s op n q (Ok _) st e p t h =
    let w : step (state_of r) s ≡ step st s = ap (λ (x : State). step x s) e in
    record { sane = h.sane; state_is = h.state_is ∙ sym (w ∙ p); temporals_are = rw t h.temporals_are }
joined_steps r s op n q (Err f) st e p t h = tenth_stops r s n f st e h.2 (t ∙ h.0) h.1 (rw p tt)

-- the same facts, with what the code's calls return as equations
pub join_returns : (r : Reader) (op : Infix) (n : ℕ) (r1 q q2 : Reader) (temporal : Bool) (lv location : ℕ)
    → temporal ≡ temporal_infix op → lv ≡ level op
    → (r1 ≡ with_temporals r (r.temporals + one_if temporal)) × (location ≡ cond temporal (r.temporals + 1) 0) × (r.temporals + one_if temporal ≤ 9)
    → n < 128 → all_locations (parts_of r) (frames_of r) ≡ counted_from 1 r.temporals
    → Reduced lv r1 n q → q2 ≡ with_frame q (Halfway op (q.count - 1) location) → Joined r op n (in_mode q2 Wanting)
join_returns r op n r1 q q2 temporal lv location et el (e1, e2, e3) lt num h eq =
    let h1 : Reduced (level op) r1 n q = rw el at h in
    let h2 : Reduced (level op) (with_temporals r (r.temporals + one_if temporal)) n q = rw e1 at h1 in
    let h3 : Reduced (level op) (with_temporals r (r.temporals + one_if (temporal_infix op))) n q = rw et at h2 in
    let le : location ≡ cond (temporal_infix op) (r.temporals + 1) 0 = rw et at e2 in
    let ni : r.temporals + one_if (temporal_infix op) ≤ 9 = rw et at e3 in
    rw eq (join_moves r op n location q lt ni le num h3)

pub open_returns : (r : Reader) (s : Sign) (n : ℕ) (q : Reader) → s ≡ Open → Sane r n → n < 128 → r.mode ≡ Wanting → q ≡ with_frame r Bracket → Moved r s n q
open_returns r s n q es h lt m e = rw (es, e) (open_moves r n h lt m)

pub prefix_returns : (r : Reader) (s : Sign) (n : ℕ) (op : Prefix) (r1 q : Reader) (temporal : Bool) (location : ℕ)
    → s ≡ Before op → temporal ≡ temporal_prefix op
    → (r1 ≡ with_temporals r (r.temporals + one_if temporal)) × (location ≡ cond temporal (r.temporals + 1) 0) × (r.temporals + one_if temporal ≤ 9)
    → Sane r n → n < 128 → r.mode ≡ Wanting → q ≡ with_frame r1 (Waiting op location) → Moved r s n q
prefix_returns r s n op r1 q temporal location es et (e1, e2, e3) h lt m e =
    let le : location ≡ cond (temporal_prefix op) (r.temporals + 1) 0 = rw et at e2 in
    let ni : r.temporals + one_if (temporal_prefix op) ≤ 9 = rw et at e3 in
    rw (es, e, e1, et) (prefix_moves r n op location h lt m ni le)

pub prefix_stops : (r : Reader) (s : Sign) (n : ℕ) (op : Prefix) (temporal : Bool) (f : Fault) → s ≡ Before op → temporal ≡ temporal_prefix op → (temporal ≡ true) × (r.temporals ≡ 9) × (f ≡ rule_fault TooManyOperators n) → r.mode ≡ Wanting → Stopped r s n f
prefix_stops r s n op temporal f es et (t, ten, k) m =
    let tp : temporal_of s ≡ true = rw es (sym et ∙ t) in
    tenth_stops r s n f (wanting (stack (parts_of r) (frames_of r))) (ap (state (parts_of r) (frames_of r)) m) k tp ten (rw es tt)

pub constant_returns : (r : Reader) (s : Sign) (n : ℕ) (b : Bool) (q : Reader) → s ≡ ConstantSign b → Sane r n → n < 128 → r.mode ≡ Wanting → q ≡ in_mode (with_part r (Constant b)) Having → Moved r s n q
constant_returns r s n b q es h lt m e = rw (es, e) (operand_moves r n (ConstantSign b) (Constant b) (constant b) h lt m refl refl refl refl refl)

pub letter_returns : (r : Reader) (s : Sign) (n : ℕ) (a : ℕ) (q : Reader) → s ≡ LetterSign a → Known s → Sane r n → n < 128 → r.mode ≡ Wanting → q ≡ in_mode (with_part r (Letter a)) Having → Moved r s n q
letter_returns r s n a q es known h lt m e =
    let k : a < 16 = rw es at known in
    rw (es, e) (operand_moves r n (LetterSign a) (Letter a) (letter a) h lt m (lt-ltb a 16 k) refl refl refl refl)
