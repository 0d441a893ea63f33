use Rattle.std.proofs.Common.{subst, sym}
use Rattle.tm_dd.specs.Unique.{AreRanks}
use Rattle.tm_dd.proofs.Ranks.{AreRanks-numbers}
use Rattle.tm_dd.proofs.store.Store.new.Goals as goal

pub arranged-requires : goal.arranged-requires
arranged-requires c = subst (AreRanks c.args.levels) (sym c.in_ok-ranks.ensures) (AreRanks-numbers c.args.levels)
