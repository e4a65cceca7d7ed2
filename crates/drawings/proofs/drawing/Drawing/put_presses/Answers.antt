use Rattle.std.proofs.Common.{ℕ, List, ◌+◌, ◌*◌, length, sym, ap, ◌∙◌, arith}
use Rattle.tables.specs.Writes.{pasted}
use Rattle.tables.proofs.Writes.{press_step, length_presses_more, length_pair, presses_grow}
use Rattle.drawings.specs.Drawn.{drawn}
use Rattle.drawings.proofs.Presses.{pair_at, put_at}
use Rattle.drawings.proofs.drawing.Drawing.put_presses.Goals as goal

pub put_press-at-requires-clause-room : goal.put_press-at-requires-clause-room
put_press-at-requires-clause-room c =
    let t = drawn c.args.self.now in
    let s = c.loop-state.state in
    let e = c.loop-event.event in
    let i = s * 16 + e in
    omega (arith, c.requires, c.loop-event.invariant.1, ap length (pair_at t s e c.loop-event-test.true), length_pair t i, length_presses_more t i, presses_grow t (i + 1) (c.args.self.now.count * 16) (omega arith), c.loop-event.auto.out)

pub loop-event-preserved : goal.loop-event-preserved
loop-event-preserved c =
    let t = drawn c.args.self.now in
    let s = c.loop-state.state in
    let e = c.loop-event.event in
    let i = s * 16 + e in
    let pair = pair_at t s e c.loop-event-test.true in
    put_at t c.args.out.now c.put_press-at.new.out c.put_press-at.result (i + 1) (s * 16 + (e + 1)) (omega arith) (
      press_step t c.args.out.now c.loop-event.out c.put_press-at.new.out _ c.loop-event.at i (omega (arith, c.requires)) c.loop-event.invariant.0 c.loop-event.invariant.1
          (c.put_press-at.ensures.leaves ∙ ap (λ (bytes : List ℕ). pasted c.loop-event.at bytes c.loop-event.out) (sym pair)),
      omega (arith, c.put_press-at.ensures.end, c.loop-event.invariant.1, ap length pair, length_pair t i, length_presses_more t i),
    )

pub loop-state-preserved : goal.loop-state-preserved
loop-state-preserved c =
    let s = c.loop-state.state in
    put_at (drawn c.args.self.now) c.args.out.now c.loop-event.out c.loop-event.at (s * 16 + c.loop-event.event) ((s + 1) * 16) (omega arith) c.loop-event.invariant
