use Rattle.std.proofs.Common.{ℕ, List, ◌++◌, length, refl, sym, ap, ◌∙◌, arith, length-append}
use Rattle.formulas.specs.Grammar.{left, right}
use Rattle.rules.proofs.Texts.{constant_text, letter_text, unary_text, binary_text, binary_length, two_appended, five_appended}
use Rattle.rules.proofs.rule.Rule.+append.Goals as goal
use Rattle.rules.proofs.rule.Rule.+append.Goals.{then-value, else-value}

pub overflow_add-letter : goal.overflow_add-letter
overflow_add-letter t c =
    let e = letter_text c.args.self.now c.args.index c.args.level c.requires.within c.parts.result.now c.parts.ensures.value c.in-Letter.letter c.in-Letter.is in
    omega (arith, e.0)

pub push-requires : goal.push-requires
push-requires t c =
    let e = constant_text c.args.self.now c.args.index c.args.level c.requires.within c.parts.result.now c.parts.ensures.value c.in-Constant.value c.in-Constant.is in
    (omega arith, omega (arith, ap length e, c.requires.room))

pub push-requires-in-Letter : goal.push-requires-in-Letter
push-requires-in-Letter t c =
    let e = letter_text c.args.self.now c.args.index c.args.level c.requires.within c.parts.result.now c.parts.ensures.value c.in-Letter.letter c.in-Letter.is in
    (omega arith, omega (arith, ap length e.1, c.requires.room))

pub push-requires-in-Unary : goal.push-requires-in-Unary
push-requires-in-Unary t c =
    let u = unary_text c.args.self.now c.args.index c.args.level c.requires.within c.parts.result.now c.parts.ensures.value c.in-Unary.op c.in-Unary.operand c.in-Unary.field-2 c.in-Unary.is in
    (omega arith, omega (arith, ap length u.1, c.requires.room))

pub append-requires : goal.append-requires
append-requires t c =
    let u = unary_text c.args.self.now c.args.index c.args.level c.requires.within c.parts.result.now c.parts.ensures.value c.in-Unary.op c.in-Unary.operand c.in-Unary.field-2 c.in-Unary.is in
    (omega (arith, u.0, c.decreases), (omega (arith, u.0, c.requires.within), omega (arith, ap length u.1, c.push-in-Unary.ensures.len, c.requires.room)))

pub push_if-requires : goal.push_if-requires
push_if-requires t c =
    let n = binary_length c.args.self.now c.args.index c.args.level c.requires.within c.parts.result.now c.parts.ensures.value c.in-Binary.op c.in-Binary.f c.in-Binary.g c.in-Binary.field-3 c.level.result (left c.in-Binary.op) (right c.in-Binary.op) c.in-Binary.is c.level.ensures refl refl in
    omega (arith, n, c.requires.room)

pub append-requires-in-Binary : goal.append-requires-in-Binary
append-requires-in-Binary t c =
    let b = binary_text c.args.self.now c.args.index c.args.level c.requires.within c.parts.result.now c.parts.ensures.value c.in-Binary.op c.in-Binary.f c.in-Binary.g c.in-Binary.field-3 c.level.result c.left_level.result (right c.in-Binary.op) c.in-Binary.is c.level.ensures c.left_level.ensures refl in
    let n = binary_length c.args.self.now c.args.index c.args.level c.requires.within c.parts.result.now c.parts.ensures.value c.in-Binary.op c.in-Binary.f c.in-Binary.g c.in-Binary.field-3 c.level.result c.left_level.result (right c.in-Binary.op) c.in-Binary.is c.level.ensures c.left_level.ensures refl in
    (omega (arith, b.0.0, c.decreases), (omega (arith, b.0.0, c.requires.within), omega (arith, length-append {A = ℕ}, n, c.requires.room, ap length c.push_if.ensures)))

pub push_infix-requires : goal.push_infix-requires
push_infix-requires t c =
    let n = binary_length c.args.self.now c.args.index c.args.level c.requires.within c.parts.result.now c.parts.ensures.value c.in-Binary.op c.in-Binary.f c.in-Binary.g c.in-Binary.field-3 c.level.result c.left_level.result (right c.in-Binary.op) c.in-Binary.is c.level.ensures c.left_level.ensures refl in
    omega (arith, length-append {A = ℕ}, n, c.requires.room, ap length c.push_if.ensures, ap length c.append-in-Binary.ensures)

pub append-requires-in-Binary-2 : goal.append-requires-in-Binary-2
append-requires-in-Binary-2 t c =
    let b = binary_text c.args.self.now c.args.index c.args.level c.requires.within c.parts.result.now c.parts.ensures.value c.in-Binary.op c.in-Binary.f c.in-Binary.g c.in-Binary.field-3 c.level.result c.left_level.result c.right_level.result c.in-Binary.is c.level.ensures c.left_level.ensures c.right_level.ensures in
    let n = binary_length c.args.self.now c.args.index c.args.level c.requires.within c.parts.result.now c.parts.ensures.value c.in-Binary.op c.in-Binary.f c.in-Binary.g c.in-Binary.field-3 c.level.result c.left_level.result c.right_level.result c.in-Binary.is c.level.ensures c.left_level.ensures c.right_level.ensures in
    (omega (arith, b.0.1, c.decreases), (omega (arith, b.0.1, c.requires.within), omega (arith, length-append {A = ℕ}, n, c.requires.room, ap length c.push_if.ensures, ap length c.append-in-Binary.ensures, ap length c.push_infix.ensures)))

pub push_if-requires-in-Binary : goal.push_if-requires-in-Binary
push_if-requires-in-Binary t c =
    let n = binary_length c.args.self.now c.args.index c.args.level c.requires.within c.parts.result.now c.parts.ensures.value c.in-Binary.op c.in-Binary.f c.in-Binary.g c.in-Binary.field-3 c.level.result c.left_level.result c.right_level.result c.in-Binary.is c.level.ensures c.left_level.ensures c.right_level.ensures in
    omega (arith, length-append {A = ℕ}, n, c.requires.room, ap length c.push_if.ensures, ap length c.append-in-Binary.ensures, ap length c.push_infix.ensures, ap length c.append-in-Binary-2.ensures)

pub returns-after-value : goal.returns-after-value
returns-after-value t c =
    let e = constant_text c.args.self.now c.args.index c.args.level c.requires.within c.parts.result.now c.parts.ensures.value c.in-Constant.value c.in-Constant.is in
    elim c.if-value.branch [ then-value w ↦ rw (c.push.ensures.items, w.push-is, e, w.if-value.true) refl | else-value w ↦ rw (c.push.ensures.items, w.push-is, e, w.if-value.false) refl ]

pub returns-in-Letter : goal.returns-in-Letter
returns-in-Letter t c =
    let e = letter_text c.args.self.now c.args.index c.args.level c.requires.within c.parts.result.now c.parts.ensures.value c.in-Letter.letter c.in-Letter.is in
    c.push-in-Letter.ensures.items ∙ ap (λ (x : List ℕ). c.args.text.now.items ++ x) (sym e.1)

pub returns-in-Unary : goal.returns-in-Unary
returns-in-Unary t c =
    let u = unary_text c.args.self.now c.args.index c.args.level c.requires.within c.parts.result.now c.parts.ensures.value c.in-Unary.op c.in-Unary.operand c.in-Unary.field-2 c.in-Unary.is in
    two_appended _ _ _ _ _ _ _ c.push-in-Unary.ensures.items c.append.ensures c.byte.ensures u.1

pub returns-in-Binary : goal.returns-in-Binary
returns-in-Binary t c =
    let b = binary_text c.args.self.now c.args.index c.args.level c.requires.within c.parts.result.now c.parts.ensures.value c.in-Binary.op c.in-Binary.f c.in-Binary.g c.in-Binary.field-3 c.level.result c.left_level.result c.right_level.result c.in-Binary.is c.level.ensures c.left_level.ensures c.right_level.ensures in
    five_appended _ _ _ _ _ _ _ _ _ _ _ _ c.push_if.ensures c.append-in-Binary.ensures c.push_infix.ensures c.append-in-Binary-2.ensures c.push_if-in-Binary.ensures b.1
