use Rattle.tm_solve.proofs.LevelCertificates.{meets_levels, meets_environment, lost_first}
use Rattle.tm_solve.proofs.certificates.levels_are_certified.Goals as goal

pub returns-clause-conditions : goal.returns-clause-conditions
returns-clause-conditions c = λ d op g region levels exact fit. meets_levels region levels exact fit

pub returns-clause-whole : goal.returns-clause-whole
returns-clause-whole c = λ d op g region levels exact fit.
    (meets_environment region levels exact fit, λ m. lost_first region levels exact fit m.e1)
