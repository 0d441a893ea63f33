use Rattle.tm_refine.proofs.PoolKeeps.{facts_kept}
use Rattle.tm_refine.proofs.pooled_arena.PooledArena.apart.Goals as goal

pub returns-clause-apart : goal.returns-clause-apart
returns-clause-apart c = c.apart.ensures.apart

pub returns-clause-follows : goal.returns-clause-follows
returns-clause-follows c = c.apart.ensures.kept.follows

pub returns-clause-tests : goal.returns-clause-tests
returns-clause-tests c = c.apart.ensures.kept.tests

pub invariant_of-self : goal.invariant_of-self
invariant_of-self c = facts_kept c.args.self.now c.apart.new.game c.apart.ensures.kept
