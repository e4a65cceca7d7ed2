use Rattle.std.proofs.Common.{arith, rules, tests}
use Rattle.std.proofs.lemmas.Iterator.{YieldsList-from_range}
use Rattle.std.proofs.lemmas.Iterator.Consumers.{YieldsList-from_filter}
use Rattle.components.specs.Bits.{has}
use Rattle.components.proofs.Bits.{has_none}
use Rattle.denials.proofs.Ranges.{folded}
use Rattle.denials.proofs.Telling.{Gathered, gathered_more, gathered_all}
use Rattle.denials.proofs.denial.Denial.mentioned.Goals as goal

pub returns : goal.returns
returns c =
    let d = c.args.self.now in
    gathered_all d c.args.owed c.fold.result
    (folded (Gathered d) c.fold.ensures.ran
    (YieldsList-from_filter _ (has c.args.owed) (YieldsList-from_range 0 d.locations d.locations c.filter.ensures.source (omega arith)) c.filter.ensures.closure (λ x r q k. search (rules, tests)))
    (λ l. has_none l)
    (λ ys a x b q h k. gathered_more d ys a x b _ q h (search (rules, tests))))
