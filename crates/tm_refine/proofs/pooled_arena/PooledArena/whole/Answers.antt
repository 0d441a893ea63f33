use Rattle.tm_refine.proofs.PoolKeeps.{is_pooled}
use Rattle.tm_refine.proofs.pooled_arena.PooledArena.whole.Goals as goal

pub returns-clause-value : goal.returns-clause-value
returns-clause-value c = is_pooled _ c.args.self.now.exact.game c.whole.result _ c.whole.ensures.value

pub returns-clause-exact : goal.returns-clause-exact
returns-clause-exact c = record { equal = c.whole.ensures.exact.equal }
