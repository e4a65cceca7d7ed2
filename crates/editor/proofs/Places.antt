-- The place of a refused rule text fits the number.
use Rattle.std.proofs.Common.{◌≡◌, ℕ, ◌+◌, ◌*◌, ◌≤◌, min, Bool, ltb, leb, List, length, Ok, Err, Result, inl, inr, arith, lit≤}
use Rattle.std.proofs.lemmas.Bool.{cond_both}
use Rattle.faults.specs.declared.Fault.{Fault}
use Rattle.faults.specs.Numbers.{cause_number}
use Rattle.rules.specs.Refusal.{Refused, too_long, unexpected, too_many, too_short}
use Rattle.formulas.specs.Formula.{Formula}
use Rattle.judge.specs.Answer.{judged}
use Rattle.lassos.specs.Bytes.{byte_labels}
use Rattle.editor.specs.Numbers.{ReadNumber, JudgedText, JudgeNumber}

place_small : (text : List ℕ) (x : Fault) → Refused text x → x.place ≤ 128
place_small text x (too_long h) = lit≤ tt
place_small text x (unexpected p s l t b n) = omega arith
place_small text x (too_many p s l t u b) = omega arith
place_small text x (too_short s t b n) = s

pub read_number : (text : List ℕ) (x : Fault) (n : ℕ) → Refused text x → n ≡ cause_number x.cause * 65536 + min x.place 65535 → ReadNumber text n
read_number text x n r e =
    let p = place_small text x r in
    inr (x, r, omega arith)

-- so does that of a refused journey
abbrev Small : Result Bool Fault → Type 0
Small (Ok b) = Unit {0}
Small (Err x) = x.place ≤ 65535

judged_small : (f : Formula) (labels : List ℕ) (u lent : ℕ) → Small (judged f labels u lent)
judged_small f labels u lent =
    let n : ℕ = length labels in
    cond_both (ltb u n) _ _ Small
    (λ _. cond_both (leb n 4096) _ _ Small (λ _. cond_both (leb (128 * n) lent) _ _ Small (λ _. tt) (λ _. lit≤ tt)) (λ _. omega arith))
    (λ _. omega arith)

text_small : (text labels : List ℕ) (u lent : ℕ) (r : Result Bool Fault) → JudgedText text labels u lent r → Small r
text_small text labels u lent r (inl (x, h, e)) = let p = place_small text x h in rw e (omega arith)
text_small text labels u lent r (inr (f, h, e)) = rw e (judged_small f (byte_labels labels) u lent)

pub judge_number : (text labels : List ℕ) (u lent : ℕ) (x : Fault) (n : ℕ) → JudgedText text labels u lent (Err x) → n ≡ cause_number x.cause * 65536 + min x.place 65535 → JudgeNumber text labels u lent n
judge_number text labels u lent x n h e =
    let p : x.place ≤ 65535 = text_small text labels u lent (Err x) h in
    (Err x, h, omega arith)
