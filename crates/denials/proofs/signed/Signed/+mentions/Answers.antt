use Rattle.denials.proofs.Pushing.{none_looked, operands_looked, operand_looked, all_looked}
use Rattle.denials.proofs.signed.Signed.+mentions.Goals as goal

pub returns-in-Fixed : goal.returns-in-Fixed
returns-in-Fixed t c l b = none_looked l c.push.ensures c.in-Fixed.is

pub returns-in-Both : goal.returns-in-Both
returns-in-Both t c l b = operands_looked l _ _ _ _ c.push.ensures c.in-Both.is (c.mentions-in-Both.ensures l b) (c.mentions-in-Both-2.ensures l b)

pub returns-in-Finally : goal.returns-in-Finally
returns-in-Finally t c l b = operand_looked l _ _ _ _ c.push.ensures c.in-Finally.is (c.mentions-in-Finally.ensures l b) (c.only-in-Finally.ensures l b)

pub returns-in-Until : goal.returns-in-Until
returns-in-Until t c l b = all_looked l _ _ _ _ _ _ c.push.ensures c.in-Until.is (c.mentions-in-Until.ensures l b) (c.mentions-in-Until-2.ensures l b) (c.only-in-Until.ensures l b)
