-- Texts put into a list piece by piece.
use Rattle.std.proofs.Common.{◌≡◌, ℕ, ◌+◌, ◌≤◌, Bool, false, cond, ltb, List, [], ◌++◌, length, take, drop, Some, None, Ok, Err, Option, refl, sym, ap, ◌∙◌, ap₂, arith}
use Rattle.std.proofs.lemmas.List.{append_assoc, length-append, length-take-le, take_at, take-append-drop}
use Rattle.std.proofs.lemmas.Slice.{drop-append-drop}
use Rattle.std.proofs.lemmas.Bool.{le-ltb}
use Rattle.faults.specs.Writing.{too_short}
use Rattle.faults.specs.declared.Fault.{Fault}
use Rattle.faults.specs.declared.Layer.TheVariants.{Check}
use Rattle.tables.specs.Files.{told}
use Rattle.printing.specs.Printed.{print_answer, print_list}

-- a line put at its place leaves less to put behind it
pub put_step : (out out' line rest : List ℕ) (at at' end : ℕ) → at' ≡ at + length line → at' ≤ end → at ≤ length out → out' ≡ take at out ++ (line ++ drop at' out)
    → take at' out' ++ (rest ++ drop end out') ≡ take at out ++ ((line ++ rest) ++ drop end out)
put_step out out' line rest at at' end e le h is =
    ap (λ (l : List ℕ). take at' l ++ (rest ++ drop end l)) s
    ∙ ap₂ (λ (a b : List ℕ). a ++ (rest ++ b)) a b
    ∙ append_assoc (take at out) line (rest ++ drop end out)
    ∙ ap (λ (l : List ℕ). take at out ++ l) (sym (append_assoc line rest (drop end out)))
  where
    p : List ℕ
    p = take at out ++ line

    n : length p ≡ at'
    n = omega (arith, length-append (take at out) line, length-take-le at out h)

    s : out' ≡ p ++ drop at' out
    s = is ∙ sym (append_assoc (take at out) line (drop at' out))

    a : take at' (p ++ drop at' out) ≡ p
    a = take_at p (drop at' out) at' n

    b : drop end (p ++ drop at' out) ≡ drop end out
    b = drop-append-drop at' out p end le n

-- nothing is left to put
pub put_end : (out rest all : List ℕ) (at end : ℕ) → rest ≡ [] → at ≡ end → take at out ++ (rest ++ drop end out) ≡ all → out ≡ all
put_end out rest all at end none e is =
    sym (take-append-drop at out)
    ∙ ap₂ (λ (l : List ℕ) (k : ℕ). take at out ++ (l ++ drop k out)) (sym none) e
    ∙ is

-- a text put from the front on, and then another
pub put_two : (out out' out'' a b : List ℕ) (at end : ℕ) → at ≡ 0 + length a → out' ≡ take 0 out ++ (a ++ drop at out) → end ≡ at + length b → out'' ≡ take at out' ++ (b ++ drop end out')
    → (end ≡ length (a ++ b)) × (out'' ≡ (a ++ b) ++ drop (length (a ++ b)) out)
put_two out out' out'' a b at end e is e' is' =
    let n : end ≡ length (a ++ b) = omega (arith, length-append a b) in
    (n, is' ∙ put_step out out' a b 0 at end e (omega arith) (omega arith) is ∙ ap (λ (k : ℕ). (a ++ b) ++ drop k out) n)

-- what print answers and leaves where there is no fault and room enough
pub printed : (fault : Option Fault) (text out out' : List ℕ) (end : ℕ) → None ≡ fault → length text ≤ length out → end ≡ length text → out' ≡ text ++ drop (length text) out
    → (Ok end ≡ print_answer fault text out) × (out' ≡ print_list fault text out)
printed fault text out out' end none h e is =
    let t : false ≡ ltb (length out) (length text) = sym (le-ltb (length out) (length text) h) in (
      ap (λ (n : ℕ). Ok n) e ∙ ap (λ (b : Bool). cond b (Err (too_short 1 Check)) (Ok (length text))) t ∙ ap (λ (f : Option Fault). print_answer f text out) none,
      is ∙ ap (λ (b : Bool). cond b out (text ++ drop (length text) out)) t ∙ ap (λ (f : Option Fault). print_list f text out) none,
    )

-- no refusal, no fault
pub no_fault : (o : Option Fault) (u : Unit {0}) → Ok u ≡ told o → None ≡ o
no_fault None u e = refl
no_fault (Some fault) u e = let clash : ◌≡◌ {A = ℕ} 0 1 = cc in absurd (omega arith)
