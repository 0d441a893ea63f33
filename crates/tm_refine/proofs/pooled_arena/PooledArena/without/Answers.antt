use Rattle.tm_refine.proofs.PoolKeeps.{facts_kept}
use Rattle.tm_refine.proofs.pooled_arena.PooledArena.without.Goals as goal

pub returns-clause-value : goal.returns-clause-value
returns-clause-value c = c.rest.ensures.value

pub returns-clause-follows : goal.returns-clause-follows
returns-clause-follows c = c.rest.ensures.kept.follows

pub returns-clause-tests : goal.returns-clause-tests
returns-clause-tests c = c.rest.ensures.kept.tests

pub invariant_of-self : goal.invariant_of-self
invariant_of-self c = facts_kept c.args.self.now c.rest.new.game c.rest.ensures.kept
