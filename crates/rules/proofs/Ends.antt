-- From a reader to the answer: what each stop and the end say of the whole text.
use Rattle.std.proofs.Common.{◌≡◌, ℕ, zero, suc, ◌+◌, ◌<◌, ◌≤◌, List, [], ◌∷◌, ◌++◌, length, get_or, take, Ok, Err, Result, sym, refl, ap, ◌∙◌, ap₂, inl, inr, add-one, arith}
use Rattle.std.proofs.lemmas.List.{take_more, take_all}
use Rattle.faults.specs.declared.Fault.{Fault}
use Rattle.formulas.specs.Formula.{Formula, operators}
use Rattle.formulas.specs.Sign.{sign}
use Rattle.formulas.specs.Grammar.{Reads, Begins, temporals}
use Rattle.formulas.specs.Table.{formulas, locations, whole_formula, whole_locations, counted_from}
use Rattle.formulas.specs.Written.{written}
use Rattle.formulas.proofs.Values.{locations_count}
use Rattle.formulas.proofs.Shortest.{only_shortest}
use Rattle.formulas.proofs.Machine as machine
use Rattle.formulas.proofs.Machine.{State, wanting, having, dashed, failed, reduce, step, run, run_append}
use Rattle.formulas.proofs.Sound.{Alive, alive_run, failed_run, accepted_reads, reads_accepted}
use Rattle.formulas.proofs.Temporal.{temporal_of, temporals_more}
use Rattle.rules.specs.declared.reader.Mode.TheVariants.{Wanting, Having, Dashed}
use Rattle.rules.specs.declared.reader.Mode.{Mode}
use Rattle.rules.specs.declared.reader.Frame.{Frame}
use Rattle.rules.specs.declared.reader.Reader.{Reader}
use Rattle.rules.specs.declared.rule.Rule.{Rule}
use Rattle.rules.specs.Reading.{parts_of, frames_of, stack, state, state_of, open_locations, all_locations, less_frame, top_frame, one_if, Sane, Reduced, Moved, Stopped, no_rule, tenth, Finished, Progress}
use Rattle.rules.specs.Refusal.{Refused, unexpected, too_many, too_short, Answered}
use Rattle.rules.specs.Parts.{IsRule}
use Rattle.rules.specs.Rules.{formula}
use Rattle.rules.proofs.Tables.{frames_less, stack_push, parts_count}

counted_length : (k n : ℕ) → length (counted_from k n) ≡ n
counted_length k zero = refl
counted_length k (suc n) = ap suc (counted_length (suc k) n)

-- no text of a formula is shorter than the written one
written_brief : (text : List ℕ) (f : Formula) → Reads text f → length (written f) ≤ length text
written_brief text f x = elim (only_shortest text f x) [ inl e ↦ let n : length text ≡ length (written f) = ap length e in omega arith | inr h ↦ omega arith ]

pub whole_rule : (text : List ℕ) (n : ℕ) (r q : Reader) → n ≡ length text → Progress text n r → r.mode ≡ Having → Reduced 0 r n q → q.depth ≤ 0 → IsRule (parts_of q)
whole_rule text n r q en p m d z =
    let h = p.sane in
    let e : q.depth ≡ 0 = omega arith in
    let f : frames_of q ≡ [] = ap (λ (k : ℕ). take k q.frames) e in
    let num : all_locations (parts_of r) (frames_of r) ≡ counted_from 1 r.temporals = rw m at h.numbered in
    let l : whole_locations (parts_of q) ≡ counted_from 1 r.temporals = ap (λ (g : List Frame). open_locations (locations (parts_of q)) g ++ whole_locations (parts_of q)) (sym f) ∙ d.located ∙ num in
    let c : operators (whole_formula (parts_of q)) ≡ r.temporals = sym (locations_count (parts_of q)) ∙ ap length l ∙ counted_length 1 r.temporals in
    let ni = h.nine in
    let all : take n text ≡ text = take_all n text (omega arith) in
    let st : state_of r ≡ having (stack (parts_of r) (frames_of r)) (whole_formula (parts_of r)) = ap (state (parts_of r) (frames_of r)) m in
    let ran : run (wanting []) text ≡ having (stack (parts_of r) (frames_of r)) (whole_formula (parts_of r)) = rw all at (p.ran ∙ st) in
    let v : reduce 0 (stack (parts_of r) (frames_of r)) (whole_formula (parts_of r)) ≡ ([], whole_formula (parts_of q)) = sym d.value ∙ ap (λ (g : List Frame). (stack (parts_of q) g, whole_formula (parts_of q))) f in
    let b = written_brief text (whole_formula (parts_of q)) (accepted_reads text (stack (parts_of r) (frames_of r)) (whole_formula (parts_of r)) (whole_formula (parts_of q)) ran v) in
    let sh = h.short in
    let t = d.tables in
    let room = t.room in
    let pl = t.parts_length in
    let count : length (parts_of q) ≡ q.count = parts_count q (omega arith) in
    let some = d.some in
    record { some = omega arith; few = omega arith; operands = t.fitting.operands; numbered = rw c l; brief = omega arith; nine = omega arith }

having_same : (K L : List machine.Frame) (f g : Formula) → having K f ≡ having L g → (K ≡ L) × (f ≡ g)
having_same K L f g e = (cc, cc)

cons_nil : (x : machine.Frame) (K : List machine.Frame) → (x ∷ K) ≡ [] → ⊥
cons_nil x K e = let z : ◌≡◌ {A = ℕ} 0 1 = cc in omega arith

-- a frame is left open
pub left_open : (r : Reader) (n : ℕ) (q : Reader) → Sane r n → r.mode ≡ Having → Reduced 0 r n q → 0 < q.depth → (K : List machine.Frame) (g h : Formula) → state_of r ≡ having K g → reduce 0 K g ≡ ([], h) → ⊥
left_open r n q s m d z K g h e k =
    let t = d.tables in
    let room = t.room in
    let fl = t.frames_length in
    let sh = s.short in
    let st : state_of r ≡ having (stack (parts_of r) (frames_of r)) (whole_formula (parts_of r)) = ap (state (parts_of r) (frames_of r)) m in
    let u = having_same (stack (parts_of r) (frames_of r)) K (whole_formula (parts_of r)) g (sym st ∙ e) in
    let v : stack (parts_of q) (frames_of q) ≡ [] = ap (λ (x : List machine.Frame × Formula). x.0) (d.value ∙ ap₂ (reduce 0) u.0 u.1 ∙ k) in
    let w = ap (stack (parts_of q)) (frames_less q z (omega arith)) ∙ stack_push (formulas (parts_of q)) [] (frames_of (less_frame q)) (top_frame q) in
    cons_nil _ _ (sym w ∙ v)

run_more : (text : List ℕ) (i : ℕ) → i < length text → run (wanting []) (take (i + 1) text) ≡ step (run (wanting []) (take i text)) (sign (get_or text i 0))
run_more text i h = ap (run (wanting [])) (take_more text i 0 h) ∙ run_append (wanting []) (take i text) (get_or text i 0 ∷ [])

pub progress_more : (text : List ℕ) (i : ℕ) (r q : Reader) → i < length text → Progress text i r → Moved r (sign (get_or text i 0)) i q → Progress text (i + 1) q
progress_more text i r q h p m =
    record {
      sane = m.sane;
      ran = run_more text i h ∙ ap (λ (s : State). step s (sign (get_or text i 0))) p.ran ∙ sym m.state_is;
      counted = temporals_more text i 0 h ∙ ap (λ (k : ℕ). k + one_if (temporal_of (sign (get_or text i 0)))) p.counted ∙ sym m.temporals_are;
    }

alive_state : (r : Reader) → Alive (state_of r)
alive_state r = go r.mode
  where
    go : (m : Mode) → Alive (state (parts_of r) (frames_of r) m)
    go Wanting = tt
    go Having = tt
    go Dashed = tt

pub begun : (text : List ℕ) (i : ℕ) (r : Reader) → Progress text i r → Begins (take i text)
begun text i r p = alive_run (take i text) (rw p.ran (alive_state r))

pub stopped_refused : (text : List ℕ) (i : ℕ) (r : Reader) (f : Fault) → length text ≤ 128 → i < length text → Progress text i r → Stopped r (sign (get_or text i 0)) i f → Refused text f
stopped_refused text i r f short h p (no_rule e) =
    let n = p.counted in
    let ni = p.sane.nine in
    let w : run (wanting []) (take (suc i) text) ≡ failed = rw add-one at (run_more text i h ∙ ap (λ (s : State). step s (sign (get_or text i 0))) p.ran ∙ e) in
    unexpected i short h (omega arith) (begun text i r p) (failed_run (take (suc i) text) w)
stopped_refused text i r f short h p (tenth a t ten) =
    let n = p.counted in
    let one : one_if (temporal_of (sign (get_or text i 0))) ≡ 1 = rw t in
    let m = temporals_more text i 0 h in
    let e : i + 1 ≡ suc i = add-one i in
    let m' : temporals (take (i + 1) text) ≡ 10 = omega arith in
    let m'' : temporals (take (suc i) text) ≡ 10 = rw e at m' in
    let w : run (wanting []) (take (suc i) text) ≡ step (state_of r) (sign (get_or text i 0)) = rw e at (run_more text i h ∙ ap (λ (s : State). step s (sign (get_or text i 0))) p.ran) in
    too_many i short h (omega arith) m'' (alive_run (take (suc i) text) (rw w a))

pub finished_answered : (text : List ℕ) (n : ℕ) (r : Reader) (o : Result Rule Fault) → n ≡ length text → length text ≤ 128 → Progress text n r → Finished r n o → Answered text o
finished_answered text n r (Ok rule) e short p (K, g, s, v) =
    let all : take n text ≡ text = take_all n text (omega arith) in
    let c : temporals text ≡ r.temporals = rw all at p.counted in
    let ni = p.sane.nine in
    let ran : run (wanting []) text ≡ having K g = rw all at (p.ran ∙ s) in
    record { short = short; few = omega arith; reads = accepted_reads text K g (formula rule) ran v }
finished_answered text n r (Err f) e short p (k, no_end) =
    let all : take n text ≡ text = take_all n text (omega arith) in
    let c : temporals text ≡ r.temporals = rw all at p.counted in
    let ni = p.sane.nine in
    let ran : run (wanting []) text ≡ state_of r = rw all at p.ran in
    let b : Begins text = rw all at (begun text n r p) in
    rw (k, e) (too_short short (omega arith) b (λ h x. let a = reads_accepted text h x in no_end a.0 a.1 h (sym ran ∙ a.2) a.3))
