use Rattle.std.proofs.Common.{length, arith}
use Rattle.tm_dd.proofs.CallerLaws.{RanksRise-numbers}
use Rattle.tm_synth.proofs.ordering.fields_and_manager.Goals as goal

pub returns-in-Ok-new-clause-ranks : goal.returns-in-Ok-new-clause-ranks
returns-in-Ok-new-clause-ranks c =
    RanksRise-numbers c.in-Ok-new.dd.table c.in-Ok-new.ensures.ranks (length c.args.order.now)
    (omega (arith, c.in-Ok-new.ensures.levels))
