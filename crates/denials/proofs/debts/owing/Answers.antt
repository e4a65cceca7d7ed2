use Rattle.denials.proofs.Seeking.{owing_found, owing_none}
use Rattle.denials.proofs.debts.owing.Goals as goal

pub returns-in-Some : goal.returns-in-Some
returns-in-Some c = owing_found c.args.rule.now c.denied.result c.denied.ensures.is c.args.location c.in-Some.part c.due.result c.if-location-eq0.false c.in-Some.ensures.0 c.due.ensures

pub returns-in-None : goal.returns-in-None
returns-in-None c = owing_none c.args.rule.now c.denied.result c.denied.ensures.is c.args.location _ c.if-location-eq0.false c.in-None.ensures c.denied.ensures.within
