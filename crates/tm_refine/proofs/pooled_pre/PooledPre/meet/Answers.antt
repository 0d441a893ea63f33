use Rattle.tm_refine.proofs.PoolKeeps.{facts_kept}
use Rattle.tm_refine.proofs.pooled_pre.PooledPre.meet.Goals as goal

pub returns-clause-value : goal.returns-clause-value
returns-clause-value c = c.both.ensures.value

pub returns-clause-follows : goal.returns-clause-follows
returns-clause-follows c = c.both.ensures.kept.follows

pub invariant_of-self : goal.invariant_of-self
invariant_of-self c = facts_kept c.args.self.now c.both.new.game c.both.ensures.kept
