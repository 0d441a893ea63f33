use Rattle.tm_refine.proofs.PoolKeeps.{facts_kept}
use Rattle.tm_refine.proofs.pooled_arena.PooledArena.part.Goals as goal

pub returns-clause-value : goal.returns-clause-value
returns-clause-value c = c.part.ensures.value

pub returns-clause-follows : goal.returns-clause-follows
returns-clause-follows c = c.part.ensures.kept.follows

pub returns-clause-tests : goal.returns-clause-tests
returns-clause-tests c = c.part.ensures.kept.tests

pub invariant_of-self : goal.invariant_of-self
invariant_of-self c = facts_kept c.args.self.now c.part.new.game c.part.ensures.kept
