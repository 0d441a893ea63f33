use Rattle.tm_refine.proofs.pooled_pre.PooledPre.fairs.Goals as goal

pub returns-clause-exact : goal.returns-clause-exact
returns-clause-exact c = record { equal = c.fairs.ensures.exact.equal }
