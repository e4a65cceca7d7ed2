use Rattle.std.proofs.Common.{refl, arith}
use Rattle.formulas.specs.Formula.{temporal_infix}
use Rattle.denials.proofs.Counting.{none_counted, unary_counted, binary_counted}
use Rattle.denials.proofs.parts.+count_operators.Goals as goal

pub count_operators-requires : goal.count_operators-requires
count_operators-requires t c =
    let n = unary_counted c.args.rule.now c.args.index c.requires.within c.parts.result.now c.parts.ensures.value c.in-Unary.op c.in-Unary.f c.in-Unary.field-2 c.is_temporal.result c.in-Unary.is c.is_temporal.ensures in
    (omega (arith, n.0, c.decreases), (omega (arith, n.0, c.requires.within), omega (arith, n.1, c.requires.few)))

pub count_operators-requires-in-Binary : goal.count_operators-requires-in-Binary
count_operators-requires-in-Binary t c =
    let n = binary_counted c.args.rule.now c.args.index c.requires.within c.parts.result.now c.parts.ensures.value c.in-Binary.op c.in-Binary.f c.in-Binary.g c.in-Binary.field-3 (temporal_infix c.in-Binary.op) c.in-Binary.is refl in
    (omega (arith, n.0.0, c.decreases), (omega (arith, n.0.0, c.requires.within), omega (arith, n.1, c.requires.few)))

pub count_operators-requires-in-Binary-2 : goal.count_operators-requires-in-Binary-2
count_operators-requires-in-Binary-2 t c =
    let n = binary_counted c.args.rule.now c.args.index c.requires.within c.parts.result.now c.parts.ensures.value c.in-Binary.op c.in-Binary.f c.in-Binary.g c.in-Binary.field-3 (temporal_infix c.in-Binary.op) c.in-Binary.is refl in
    (omega (arith, n.0.1, c.decreases), (omega (arith, n.0.1, c.requires.within), omega (arith, n.1, c.requires.few)))

pub overflow_add-result : goal.overflow_add-result
overflow_add-result t c =
    let n = unary_counted c.args.rule.now c.args.index c.requires.within c.parts.result.now c.parts.ensures.value c.in-Unary.op c.in-Unary.f c.in-Unary.field-2 c.is_temporal.result c.in-Unary.is c.is_temporal.ensures in
    omega (arith, n.1, c.requires.few, c.count_operators.ensures)

pub overflow_add-result-in-Binary : goal.overflow_add-result-in-Binary
overflow_add-result-in-Binary t c =
    let n = binary_counted c.args.rule.now c.args.index c.requires.within c.parts.result.now c.parts.ensures.value c.in-Binary.op c.in-Binary.f c.in-Binary.g c.in-Binary.field-3 c.is_temporal-in-Binary.result c.in-Binary.is c.is_temporal-in-Binary.ensures in
    omega (arith, n.1, c.requires.few, c.count_operators-in-Binary.ensures)

pub overflow_add-result-in-Binary-2 : goal.overflow_add-result-in-Binary-2
overflow_add-result-in-Binary-2 t c =
    let n = binary_counted c.args.rule.now c.args.index c.requires.within c.parts.result.now c.parts.ensures.value c.in-Binary.op c.in-Binary.f c.in-Binary.g c.in-Binary.field-3 c.is_temporal-in-Binary.result c.in-Binary.is c.is_temporal-in-Binary.ensures in
    omega (arith, n.1, c.requires.few, c.count_operators-in-Binary.ensures, c.count_operators-in-Binary-2.ensures)

pub returns-in-Constant : goal.returns-in-Constant
returns-in-Constant t c = none_counted c.args.rule.now c.args.index c.requires.within c.parts.result.now c.parts.ensures.value c.in-Constant.is

pub returns-in-Unary : goal.returns-in-Unary
returns-in-Unary t c =
    let n = unary_counted c.args.rule.now c.args.index c.requires.within c.parts.result.now c.parts.ensures.value c.in-Unary.op c.in-Unary.f c.in-Unary.field-2 c.is_temporal.result c.in-Unary.is c.is_temporal.ensures in
    omega (arith, n.1, c.count_operators.ensures)

pub returns-in-Binary : goal.returns-in-Binary
returns-in-Binary t c =
    let n = binary_counted c.args.rule.now c.args.index c.requires.within c.parts.result.now c.parts.ensures.value c.in-Binary.op c.in-Binary.f c.in-Binary.g c.in-Binary.field-3 c.is_temporal-in-Binary.result c.in-Binary.is c.is_temporal-in-Binary.ensures in
    omega (arith, n.1, c.count_operators-in-Binary.ensures, c.count_operators-in-Binary-2.ensures)
