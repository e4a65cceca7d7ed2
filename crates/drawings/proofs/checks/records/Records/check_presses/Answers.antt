use Rattle.std.proofs.Common.{◌≡◌, false, None, sym, ◌∙◌, arith}
use Rattle.std.proofs.lemmas.Result.{err_from_is_err_and}
use Rattle.tables.specs.Files.{press_place, place_fault, is_end}
use Rattle.tables.proofs.Checks.{told_ok, told_err, tail_goes, press_whole, ends_at_fault, ends_trailing, ends_well}
use Rattle.drawings.proofs.checks.records.Records.check_presses.Goals as goal

pub returns-in_err-check_place : goal.returns-in_err-check_place
returns-in_err-check_place c =
    let p = err_from_is_err_and c.from_residual.result c.from_residual.ensures.1 in
    ends_at_fault c.args.self.now.bytes.now c.args.self.now.states c.args.self.now.events c.from_residual.result c.loop-k.k p.1 p.2 c.loop-k.invariant.1
    (told_err _ (sym c.in_err-check_place.ensures)) c.loop-k.invariant.0

pub loop-k-preserved : goal.loop-k-preserved
loop-k-preserved c =
    let bytes = c.args.self.now.bytes.now in
    let n = c.args.self.now.states in
    let k = c.loop-k.k in
    let good : place_fault bytes n c.args.self.now.events k ≡ None = told_ok _ (sym c.in_ok-check_place.ensures) in
    let going : is_end bytes (press_place n k) ≡ false = sym c.is_end.ensures ∙ c.if-is_end.false in (
      sym (tail_goes bytes n c.args.self.now.events k c.loop-k.invariant.1 good going) ∙ c.loop-k.invariant.0,
      omega (arith, (press_whole bytes n c.args.self.now.events k going good).1),
    )

pub returns-then-end-self : goal.returns-then-end-self
returns-then-end-self c =
    ends_trailing c.args.self.now.bytes.now c.args.self.now.states c.args.self.now.events c.loop-k.k (rw c.place-end.ensures at c.refusal.ensures) c.loop-k.invariant.1
    (told_ok _ (sym c.in_ok-check_place.ensures)) (sym c.is_end.ensures ∙ c.if-is_end.true) (rw c.place-end.ensures at c.if-end-self.true) c.loop-k.invariant.0

pub returns : goal.returns
returns c =
    ends_well c.args.self.now.bytes.now c.args.self.now.states c.args.self.now.events c.loop-k.k c.loop-k.invariant.1
    (told_ok _ (sym c.in_ok-check_place.ensures)) (sym c.is_end.ensures ∙ c.if-is_end.true) (rw c.place-end.ensures at c.if-end-self.false) c.loop-k.invariant.0
