use Rattle.std.proofs.Common.{false, arith}
use Rattle.formulas.specs.declared.Part.TheVariants.{Constant}
use Rattle.formulas.proofs.Values.{sound_at}
use Rattle.lassos.proofs.Rows.{row_below, rows_more}
use Rattle.judge.proofs.rows.evaluate.Goals as goal

pub part_row-requires : goal.part_row-requires
part_row-requires g c =
    let below = row_below c.loop-index.index _ c.args.shape.count c.loop-index-test.true in
    record { operands = sound_at _ _ _ c.requires.operands c.loop-index-test.true; all = c.requires.all; room = omega arith }

pub loop-index-preserved : goal.loop-index-preserved
loop-index-preserved g c = rows_more _ _ _ _ _ _ _ (Constant false) c.requires.all c.args.shape.inside c.requires.operands c.loop-index-test.true c.loop-index.invariant c.part_row.ensures
