use Rattle.std.proofs.Common.{ap, ◌∙◌}
use Rattle.tm_dd.specs.Table.{rank_of}
use Rattle.tm_dd.proofs.store.Store.depth.Goals as goal

pub returns-clause-value : goal.returns-clause-value
returns-clause-value c = c.rank.ensures.value ∙ ap (rank_of c.args.self.now) c.level.ensures.value
