use Rattle.std.proofs.Common.{Err, refl, ap, ◌∙◌, arith}
use Rattle.tables.specs.Writes.{ReadsBack}
use Rattle.tables.proofs.Cells.{cells_formed}
use Rattle.tables.proofs.Writes.{file_size, write_fits, write_short, writes_all, reads_back}
use Rattle.drawings.specs.Drawn.{drawn}
use Rattle.drawings.specs.Rows.{start_at, label_at, next_at}
use Rattle.drawings.specs.declared.drawing.Drawing.{Drawing}
use Rattle.drawings.proofs.drawing.Drawing.write.Goals as goal

back : (d : Drawing) → ReadsBack (drawn d)
back d = reads_back (drawn d) (cells_formed d.count (start_at d.states) (label_at d.states) (next_at d.states) d.few d.fit d.within) d.few refl

pub returns-then-out-size : goal.returns-then-out-size
returns-then-out-size c =
    let d = c.args.self.now in
    let short = write_short (drawn d) c.args.out.now _ (file_size (drawn d) _ (omega (arith, c.count_presses.ensures.all))) c.if-out-size.true in
    record { answer = ap Err c.refusal.ensures ∙ short.0; leaves = short.1; back = back d }

pub returns : goal.returns
returns c =
    let d = c.args.self.now in
    let fits = write_fits (drawn d) c.args.out.now _ (file_size (drawn d) _ (omega (arith, c.count_presses.ensures.all))) c.if-out-size.false in
    record {
      answer = fits.0;
      leaves =
          writes_all (drawn d) c.args.out.now c.put.new.out c.put_states.new.out c.put_presses-end.new.out c.put-2.new.out d.count c.put_presses-end.result refl d.few
          c.put_presses-end.ensures.end c.put.ensures c.put_states.ensures c.put_presses-end.ensures.leaves c.put-2.ensures
          ∙ fits.1;
      back = back d;
    }
