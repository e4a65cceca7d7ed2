use Rattle.std.proofs.Common.{◌≡◌, ℕ, ◌+◌, List, ◌++◌, length, take, drop, sym, refl, ap, ◌∙◌, arith}
use Rattle.std.specs.List.{flat_map}
use Rattle.printing.specs.Text.{entry_line}
use Rattle.printing.proofs.Left.{at_place, joined_left, length_left, joined_none}
use Rattle.printing.proofs.Putting.{put_step, put_end}
use Rattle.printing.proofs.writing.put_entries.Goals as goal

pub loop-entry-init : goal.loop-entry-init
loop-entry-init g c = (refl, refl)

pub put_line-at-requires : goal.put_line-at-requires
put_line-at-requires g c =
    let f = entry_line (g.D.Named.names c.args.dialogue.now) in
    let es = c.args.entries.now in
    let i = c.loop-entry.entry-index in
    let n : length (c.entry_line.result.items) ≡ length (f (at_place es i)) = ap length c.entry_line.ensures in
    omega (arith, n, length_left f es i c.loop-entry-test.true, c.loop-entry.invariant.0, c.requires, c.loop-entry.auto.out)

pub loop-entry-preserved : goal.loop-entry-preserved
loop-entry-preserved g c =
    let f = entry_line (g.D.Named.names c.args.dialogue.now) in
    let es = c.args.entries.now in
    let i = c.loop-entry.entry-index in
    let rest = flat_map f (drop (i + 1) es) in
    let end = c.args.start + length (flat_map f es) in
    let n : length (c.entry_line.result.items) ≡ length (f (at_place es i)) = ap length c.entry_line.ensures in
    let k = length_left f es i c.loop-entry-test.true in
    let e = c.put_line-at.ensures.end in
    let s = put_step c.loop-entry.out c.put_line-at.new.out (c.entry_line.result.items) rest c.loop-entry.at c.put_line-at.result end e (omega (arith, n, k, e, c.loop-entry.invariant.0)) (omega (arith, n, k, c.loop-entry.invariant.0, c.requires, c.loop-entry.auto.out)) c.put_line-at.ensures.bytes in
    let j : c.entry_line.result.items ++ rest ≡ flat_map f (drop i es) = ap (λ (l : List ℕ). l ++ rest) c.entry_line.ensures ∙ sym (joined_left f es i c.loop-entry-test.true) in
    (omega (arith, n, k, e, c.loop-entry.invariant.0), s ∙ ap (λ (l : List ℕ). take c.loop-entry.at c.loop-entry.out ++ (l ++ drop end c.loop-entry.out)) j ∙ c.loop-entry.invariant.1)

pub returns : goal.returns
returns g c =
    let f = entry_line (g.D.Named.names c.args.dialogue.now) in
    let es = c.args.entries.now in
    let rest = flat_map f (drop c.loop-entry.entry-index es) in
    let end = c.args.start + length (flat_map f es) in
    let none = joined_none f es c.loop-entry.entry-index c.loop-entry-test.false in
    let n : length rest ≡ 0 = ap length none in
    let e : c.loop-entry.at ≡ end = omega (arith, n, c.loop-entry.invariant.0) in
    let all = take c.args.start c.args.out.now ++ (flat_map f es ++ drop end c.args.out.now) in
    record {
      end = e;
      bytes =
          put_end c.loop-entry.out rest all c.loop-entry.at end none e c.loop-entry.invariant.1
          ∙ ap (λ (k : ℕ). take c.args.start c.args.out.now ++ (flat_map f es ++ drop k c.args.out.now)) (sym e);
    }
