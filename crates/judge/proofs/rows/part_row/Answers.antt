use Rattle.std.proofs.Common.{arith}
use Rattle.lassos.proofs.Rows.{row_below, sound_unary, sound_binary, filled_row, prefix_value, infix_value}
use Rattle.judge.proofs.rows.part_row.Goals as goal

pub row_of-requires-in-Binary : goal.row_of-requires-in-Binary
row_of-requires-in-Binary g c =
    let lower = sound_binary _ _ _ _ _ _ c.in-Binary.is c.requires.operands in
    let l = row_below _ _ c.args.shape.count lower.0 in
    omega arith

pub row_of-requires-in-Binary-2 : goal.row_of-requires-in-Binary-2
row_of-requires-in-Binary-2 g c =
    let lower = sound_binary _ _ _ _ _ _ c.in-Binary.is c.requires.operands in
    let l = row_below _ _ c.args.shape.count lower.1 in
    omega arith

pub returns-in-Unary : goal.returns-in-Unary
returns-in-Unary g c =
    let lower = sound_unary _ _ _ _ _ c.in-Unary.is c.requires.operands in
    let l = row_below _ _ c.args.shape.count lower in
    rw c.in-Unary.is
    (filled_row _ _ _ c.split_at_mut-below.ensures.value _ _ _ _ _ _ c.split_at_mut-below.ensures.front_len c.prefix_row.ensures
    (prefix_value _ _ _ c.split_at_mut-below.ensures.value _ _ _ _ _ _ c.requires.all c.args.shape.inside (omega arith) c.row_of.ensures.each))

pub returns-in-Binary : goal.returns-in-Binary
returns-in-Binary g c =
    let lower = sound_binary _ _ _ _ _ _ c.in-Binary.is c.requires.operands in
    let l = row_below _ _ c.args.shape.count lower.0 in
    let l' = row_below _ _ c.args.shape.count lower.1 in
    rw c.in-Binary.is
    (filled_row _ _ _ c.split_at_mut-below.ensures.value _ _ _ _ _ _ c.split_at_mut-below.ensures.front_len c.infix_row.ensures
    (infix_value _ _ _ c.split_at_mut-below.ensures.value _ _ _ _ _ _ _ _ c.requires.all c.args.shape.inside (omega arith) (omega arith) c.row_of-in-Binary.ensures.each c.row_of-in-Binary-2.ensures.each))
