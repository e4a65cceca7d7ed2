use Rattle.std.proofs.Common.{ℕ, ap, ◌∙◌, arith}
use Rattle.tables.specs.Cells.{cells}
use Rattle.tables.proofs.Cells.{copies}
use Rattle.drawings.specs.Rows.{start_at, label_at, next_at}
use Rattle.drawings.proofs.Rows.{copied_fit, copied_within}
use Rattle.drawings.proofs.drawing.copies.drawing_of.Goals as goal

pub invariant_of-result : goal.invariant_of-result
invariant_of-result g c =
    let d = c.args.dialogue.now in
    let t = g.D.Dialogue.table d in
    let f = g.D.Dialogue.formed d in
    let xs = c.states_of.result in
    record {
      few = omega (arith, c.states.ensures, c.requires.few);
      fit = copied_fit t f xs c.requires.few (omega arith) c.states_of.ensures;
      within = rw c.states.ensures (copied_within t f xs c.requires.few (omega arith) c.states_of.ensures);
    }

pub returns : goal.returns
returns g c =
    let d = c.args.dialogue.now in
    let t = g.D.Dialogue.table d in
    let xs = c.states_of.result in
    let copy = c.states_of.ensures in
    ap (λ (n : ℕ). cells n (start_at xs) (label_at xs) (next_at xs)) c.states.ensures
    ∙ copies t (g.D.Dialogue.formed d) (start_at xs) (label_at xs) (next_at xs) c.requires.few c.requires.events (λ s h. (copy s h).start) (λ s h. (copy s h).label) (λ s e h k. (copy s h).next e k)
