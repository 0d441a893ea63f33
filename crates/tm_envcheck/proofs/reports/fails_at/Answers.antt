use Rattle.std.proofs.Common.{refl}
use Rattle.tm_envcheck.proofs.Reporting.{least_none, least_some}
use Rattle.tm_envcheck.proofs.reports.fails_at.Goals as goal

pub returns-in-Some-clause-verdict : goal.returns-in-Some-clause-verdict
returns-in-Some-clause-verdict c = λ d of.
    (refl, refl, least_some d _ _ c.in-Some.state c.in-Some.is (c.in_ok-state.ensures.least d of))

pub returns-in-None-clause-verdict : goal.returns-in-None-clause-verdict
returns-in-None-clause-verdict c = λ d of. least_none d _ _ c.in-None.is (c.in_ok-state.ensures.least d of)
