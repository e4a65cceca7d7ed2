use Rattle.rules.specs.Rules.{table}
use Rattle.denials.proofs.Pushing.{constant_pushed, letter_pushed, unary_pushed, binary_pushed}
use Rattle.denials.proofs.signed.Signed.push.Goals as goal

pub returns-in-Constant : goal.returns-in-Constant
returns-in-Constant c = constant_pushed c.args.rule.now c.args.self c.requires c.parts.result.now c.parts.ensures.value c.in-Constant.value c.in-Constant.is

pub returns-in-Letter : goal.returns-in-Letter
returns-in-Letter c = letter_pushed c.args.rule.now c.args.self c.requires c.parts.result.now c.parts.ensures.value c.in-Letter.letter c.in-Letter.is

pub returns-in-Unary : goal.returns-in-Unary
returns-in-Unary c =
    unary_pushed c.args.rule.now c.args.self c.requires c.parts.result.now c.parts.ensures.value c.in-Unary.op c.in-Unary.f c.in-Unary.location c.push_prefix.result c.in-Unary.is
    (c.push_prefix.ensures.is (table c.args.rule.now))
    c.push_prefix.ensures.below

pub returns-in-Binary : goal.returns-in-Binary
returns-in-Binary c =
    binary_pushed c.args.rule.now c.args.self c.requires c.parts.result.now c.parts.ensures.value c.in-Binary.op c.in-Binary.f c.in-Binary.g c.in-Binary.location c.push_infix.result c.in-Binary.is
    (c.push_infix.ensures.is (table c.args.rule.now))
    c.push_infix.ensures.below
