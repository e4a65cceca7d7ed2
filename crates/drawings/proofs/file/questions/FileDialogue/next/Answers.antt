use Rattle.std.proofs.Common.{Some, sym, ap, ◌∙◌, arith}
use Rattle.tables.proofs.Filed.{found_hit, found_miss, filed_formed}
use Rattle.drawings.proofs.file.questions.FileDialogue.next.Goals as goal
use Rattle.drawings.proofs.file.questions.FileDialogue.next.Goals.{then-state-self-via-then-state-self, then-state-self-via-else-state-self+then-event-self}

pub returns-then-state-self : goal.returns-then-state-self
returns-then-state-self g c =
    let f = c.args.self.now in
    let formed = filed_formed (g.B.AsSlice.items f.bytes) f.outline.states f.outline.events f.outline.presses f.few f.most f.exist in
    elim c.then-state-self.branch [
      | then-state-self-via-then-state-self w ↦ sym (formed.absent_state c.args.state c.args.event w.if-state-self.true)
      | then-state-self-via-else-state-self+then-event-self w ↦ sym (formed.absent_event c.args.state c.args.event w.if-event-self.true)
    ]

pub returns-in_err-k : goal.returns-in_err-k
returns-in_err-k g c =
    let f = c.args.self.now in
    c.from_residual.ensures ∙ sym (found_miss (g.B.AsSlice.items f.bytes) f.outline.states c.args.state c.args.event f.outline.presses c.in_err-k.ensures)

pub returns : goal.returns
returns g c =
    let f = c.args.self.now in
    ap Some (rw c.as_slice-bytes.ensures at c.word.ensures)
    ∙ sym (found_hit (g.B.AsSlice.items f.bytes) f.outline.states f.outline.presses f.outline.events f.most f.exist f.ordered c.args.state c.args.event c.in_ok-k.k (omega arith) c.in_ok-k.ensures)
