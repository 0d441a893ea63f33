use Rattle.tm_refine.proofs.pooled_pre.PooledPre.goals.Goals as goal

pub returns-clause-exact : goal.returns-clause-exact
returns-clause-exact c = record { equal = c.goals.ensures.exact.equal }
