use Rattle.std.proofs.Common.{◌∙◌, arith}
use Rattle.tables.proofs.Filed.{short_name, long_name}
use Rattle.drawings.proofs.file.names.FileNamed.name.Goals as goal

pub returns-then-number-lt10-clause-spells : goal.returns-then-number-lt10-clause-spells
returns-then-number-lt10-clause-spells g c =
    c.new.ensures.spells ∙ short_name c.args.self.now.outline.events c.args.event c.if-event-self.false c.if-number-lt10.true

pub returns-else-number-lt10-clause-spells : goal.returns-else-number-lt10-clause-spells
returns-else-number-lt10-clause-spells g c =
    c.new-else-number-lt10.ensures.spells
    ∙ long_name c.args.self.now.outline.events c.args.event c.if-event-self.false c.if-number-lt10.false (omega (arith, c.args.self.now.most))
