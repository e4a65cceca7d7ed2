use Rattle.rules.proofs.Steps.{join_returns}
use Rattle.rules.proofs.reader.Reader.join.Goals as goal

pub returns : goal.returns
returns c =
    join_returns c.args.self.now c.args.op c.args.place c.locate.new.self c.reduce.new.self c.push_frame.new.self c.is_temporal.result c.level.result c.in_ok-location.location
    c.is_temporal.ensures c.level.ensures c.in_ok-location.ensures c.requires.more c.requires.numbered c.reduce.ensures c.push_frame.ensures
