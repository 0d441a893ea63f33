use Rattle.std.proofs.Common.{None}
use Rattle.tm_refine.proofs.PoolKeeps.{facts_with, hint_none}
use Rattle.tm_refine.proofs.pooled_arena.PooledArena.split.Goals as goal

pub returns-clause-split : goal.returns-clause-split
returns-clause-split c = c.split.ensures.split

pub returns-clause-follows : goal.returns-clause-follows
returns-clause-follows c = c.split.ensures.kept.follows

pub returns-clause-tests : goal.returns-clause-tests
returns-clause-tests c = c.split.ensures.kept.tests

pub invariant_of-self : goal.invariant_of-self
invariant_of-self c = facts_with c.args.self.now c.split.new.game c.split.ensures.kept None (hint_none c.split.new.game)
