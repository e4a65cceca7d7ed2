-- The laws of rule texts.
use Rattle.std.proofs.Common.{◌≡◌, ℕ, suc, ◌≤◌, List, [], ◌++◌, take, drop, Ok, Err, codes, sym, refl, ap, ◌∙◌, subst, inl, inr, arith, lit<, lit≤, take-append-drop}
use Rattle.std.proofs.lemmas.List.{take-take}
use Rattle.std.proofs.lemmas.Bool.{cases_order}
use Rattle.faults.specs.declared.Cause.TheVariants.{UnexpectedByte, TooManyOperators}
use Rattle.faults.specs.declared.Fault.{Fault}
use Rattle.formulas.specs.Formula.{Formula}
use Rattle.formulas.specs.Grammar.{Reads, Begins, temporals}
use Rattle.formulas.proofs.Machine.{Frame, wanting, having}
use Rattle.formulas.proofs.Sound.{begins_front, alive_run, failed_run, accepted_reads, reads_accepted, one_formula}
use Rattle.formulas.proofs.Shortest.{written_reads, only_shortest}
use Rattle.formulas.proofs.Temporal.{temporals_append}
use Rattle.rules.specs.Refusal.{rule_fault, Refused, too_long, unexpected, too_many, too_short, Accepted}
use Rattle.rules.specs.Rules.{formula}
use Rattle.rules.specs.Laws.{OneFormula, OneAnswer, Shortest, Worked}

pub one_formula_law : OneFormula
one_formula_law text f g x y = one_formula text f g x y

pub shortest_law : Shortest
shortest_law text f x = (written_reads text f x, only_shortest text f x)

-- a shorter front of a text
front : (text : List ℕ) (m n : ℕ) → m ≤ n → take n text ≡ take m text ++ drop m (take n text)
front text m n le =
    let e = take-take m n text le in
    sym (take-append-drop m (take n text)) ∙ ap (λ (x : List ℕ). x ++ drop m (take n text)) e

begins_less : (text : List ℕ) (m n : ℕ) → m ≤ n → Begins (take n text) → Begins (take m text)
begins_less text m n le b = begins_front (take m text) (drop m (take n text)) (subst Begins (front text m n le) b)

temporals_less : (text : List ℕ) (m n : ℕ) → m ≤ n → temporals (take m text) ≤ temporals (take n text)
temporals_less text m n le =
    let e = ap temporals (front text m n le) ∙ temporals_append (take m text) (drop m (take n text)) in
    omega arith

begins_text : (text : List ℕ) (m : ℕ) → Begins text → Begins (take m text)
begins_text text m b = begins_front (take m text) (drop m text) (subst Begins (sym (take-append-drop m text)) b)

temporals_text : (text : List ℕ) (m : ℕ) → temporals (take m text) ≤ temporals text
temporals_text text m =
    let e = ap temporals (sym (take-append-drop m text)) ∙ temporals_append (take m text) (drop m text) in
    omega arith

reads_begins : (text : List ℕ) (f : Formula) → Reads text f → Begins text
reads_begins text f x = ([], f, subst (λ (t : List ℕ). Reads t f) (sym (Rattle.std.proofs.lemmas.List.append-nil text)) x)

-- an accepted text is not refused
pub not_both : (text : List ℕ) (f : Formula) (x : Fault) → Accepted text f → Refused text x → ⊥
not_both text f x a (too_long h) = let s = a.short in omega arith
not_both text f x a (unexpected p s l t b no_begin) = no_begin (begins_text text (suc p) (reads_begins text f a.reads))
not_both text f x a (too_many p s l t u b) = let k = a.few in let m = temporals_text text (suc p) in omega arith
not_both text f x a (too_short s t b no_rule) = no_rule f a.reads

-- two refusals are the same
same_unexpected : (text : List ℕ) (p q : ℕ) → Begins (take p text) → (Begins (take (suc p) text) → ⊥) → Begins (take q text) → (Begins (take (suc q) text) → ⊥) → p ≡ q
same_unexpected text p q b n c m =
    elim (cases_order p q) [ inl e ↦ e | inr o ↦ elim o [ inl lt ↦ absurd (n (begins_less text (suc p) q lt c)) | inr gt ↦ absurd (m (begins_less text (suc q) p gt b)) ] ]

same_many : (text : List ℕ) (p q : ℕ) → temporals (take p text) ≡ 9 → temporals (take (suc p) text) ≡ 10 → temporals (take q text) ≡ 9 → temporals (take (suc q) text) ≡ 10 → p ≡ q
same_many text p q a b c d =
    elim (cases_order p q) [ inl e ↦ e | inr o ↦ elim o [ inl lt ↦ absurd (let m = temporals_less text (suc p) q lt in omega arith) | inr gt ↦ absurd (let m = temporals_less text (suc q) p gt in omega arith) ] ]

unexpected_many : (text : List ℕ) (p q : ℕ) → temporals (take p text) ≤ 9 → (Begins (take (suc p) text) → ⊥) → temporals (take (suc q) text) ≡ 10 → Begins (take (suc q) text) → ⊥
unexpected_many text p q t n u b =
    elim (cases_order p q) [
      | inl e ↦ n (subst (λ (k : ℕ). Begins (take (suc k) text)) (sym e) b)
      | inr o ↦ elim o [ inl lt ↦ n (begins_less text (suc p) (suc q) (omega arith) b) | inr gt ↦ let m = temporals_less text (suc q) p gt in omega arith ]
    ]

one_refusal : (text : List ℕ) (x y : Fault) → Refused text x → Refused text y → x ≡ y
one_refusal text x y (too_long h) (too_long k) = refl
one_refusal text x y (too_long h) (unexpected q s l t b n) = absurd (omega arith)
one_refusal text x y (too_long h) (too_many q s l t u b) = absurd (omega arith)
one_refusal text x y (too_long h) (too_short s t b n) = absurd (omega arith)
one_refusal text x y (unexpected p s l t b n) (too_long k) = absurd (omega arith)
one_refusal text x y (unexpected p s l t b n) (unexpected q s' l' t' b' n') = ap (rule_fault UnexpectedByte) (same_unexpected text p q b n b' n')
one_refusal text x y (unexpected p s l t b n) (too_many q s' l' t' u' b') = absurd (unexpected_many text p q t n u' b')
one_refusal text x y (unexpected p s l t b n) (too_short s' t' b' n') = absurd (n (begins_text text (suc p) b'))
one_refusal text x y (too_many p s l t u b) (too_long k) = absurd (omega arith)
one_refusal text x y (too_many p s l t u b) (unexpected q s' l' t' b' n') = absurd (unexpected_many text q p t' n' u b)
one_refusal text x y (too_many p s l t u b) (too_many q s' l' t' u' b') = ap (rule_fault TooManyOperators) (same_many text p q t u t' u')
one_refusal text x y (too_many p s l t u b) (too_short s' t' b' n') = absurd (let m = temporals_text text (suc p) in omega arith)
one_refusal text x y (too_short s t b n) (too_long k) = absurd (omega arith)
one_refusal text x y (too_short s t b n) (unexpected q s' l' t' b' n') = absurd (n' (begins_text text (suc q) b))
one_refusal text x y (too_short s t b n) (too_many q s' l' t' u' b') = absurd (let m = temporals_text text (suc q) in omega arith)
one_refusal text x y (too_short s t b n) (too_short s' t' b' n') = refl

pub one_answer_law : OneAnswer
one_answer_law text (Ok r) (Ok s) a b = one_formula text (formula r) (formula s) a.reads b.reads
one_answer_law text (Ok r) (Err g) a b = not_both text (formula r) g a b
one_answer_law text (Err f) (Ok s) a b = not_both text (formula s) f b a
one_answer_law text (Err f) (Err g) a b = one_refusal text f g a b

-- the worked examples: the machine computes them
wanting_having : (K L : List Frame) (g : Formula) → wanting K ≡ having L g → ⊥
wanting_having K L g e = let z : ◌≡◌ {A = ℕ} 0 1 = cc in omega arith

pub worked_law : Worked
worked_law =
    record {
      groups_right = accepted_reads (codes "aUbUc") _ _ _ refl refl;
      same_with_brackets = accepted_reads (codes "aU(bUc)") _ _ _ refl refl;
      brackets_read = accepted_reads (codes "((a))&(b&c)") _ _ _ refl refl;
      brackets_written = refl;
      empty = too_short (lit≤ tt) (lit≤ tt) (alive_run [] tt) (λ f x. let a = reads_accepted [] f x in wanting_having [] a.0 a.1 a.2);
      gap = unexpected 2 (lit≤ tt) (lit< tt) (lit≤ tt) (alive_run (codes "a ") tt) (failed_run (codes "a b") refl);
      nine = (_, record { short = lit≤ tt; few = lit≤ tt; reads = accepted_reads (codes "GGGGGGGGGa") _ _ _ refl refl });
      ten = too_many 9 (lit≤ tt) (lit< tt) refl refl (alive_run (codes "GGGGGGGGGG") tt);
    }
