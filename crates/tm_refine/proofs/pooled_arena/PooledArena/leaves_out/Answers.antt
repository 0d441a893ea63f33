use Rattle.tm_refine.proofs.PoolKeeps.{facts_kept}
use Rattle.tm_refine.proofs.pooled_arena.PooledArena.leaves_out.Goals as goal

pub returns-clause-out : goal.returns-clause-out
returns-clause-out c = c.leaves_out.ensures.out

pub returns-clause-follows : goal.returns-clause-follows
returns-clause-follows c = c.leaves_out.ensures.kept.follows

pub returns-clause-tests : goal.returns-clause-tests
returns-clause-tests c = c.leaves_out.ensures.kept.tests

pub invariant_of-self : goal.invariant_of-self
invariant_of-self c = facts_kept c.args.self.now c.leaves_out.new.game c.leaves_out.ensures.kept
