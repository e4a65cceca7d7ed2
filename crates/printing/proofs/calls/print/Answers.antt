use Rattle.std.proofs.Common.{◌≡◌, ℕ, ◌+◌, List, ◌++◌, length, take, drop, ap, ◌∙◌}
use borrow.Author.Tests.{true-leb}
use Rattle.std.specs.List.{flat_map}
use Rattle.unfolding.specs.declared.Press.{Press}
use Rattle.printing.specs.Refusal.{fault_of}
use Rattle.printing.specs.Text.{first_line, entries_of, entry_line}
use Rattle.printing.proofs.Putting.{put_two, printed, no_fault}
use Rattle.printing.proofs.calls.print.Goals as goal

pub returns-clause-list : goal.returns-clause-list
returns-clause-list g c =
    let f = entry_line (g.D.Named.names c.args.dialogue.now) in
    let a = first_line c.args.answer in
    let b = flat_map f (entries_of c.args.answer) in
    let out = c.args.out.now in
    let end = c.put_line-end.result in
    let out' = c.put_line-end.new.out in
    let e : end ≡ 0 + length a = c.put_line-end.ensures.end ∙ ap (λ (l : List ℕ). 0 + length l) c.first_line.ensures in
    let s : out' ≡ take 0 out ++ (a ++ drop end out) = c.put_line-end.ensures.bytes ∙ ap (λ (l : List ℕ). take 0 out ++ (l ++ drop end out)) c.first_line.ensures in
    let e' : c.put_entries.result ≡ end + length b = c.put_entries.ensures.end ∙ ap (λ (l : List Press). end + length (flat_map f l)) c.entries_of.ensures in
    let s' : c.put_entries.new.out ≡ take end out' ++ (b ++ drop c.put_entries.result out') = c.put_entries.ensures.bytes ∙ ap (λ (l : List Press). take end out' ++ (flat_map f l ++ drop c.put_entries.result out')) c.entries_of.ensures in
    let two = put_two out out' c.put_entries.new.out a b end c.put_entries.result e s e' s' in
    let fault = fault_of (g.D.Dialogue.table c.args.dialogue.now) c.args.answer in
    (printed fault (a ++ b) out c.put_entries.new.out c.put_entries.result (no_fault fault _ c.in_ok-admit.ensures) (true-leb (length (a ++ b)) (length out) c.if-not-fits.ensures) two.0 two.1).1
