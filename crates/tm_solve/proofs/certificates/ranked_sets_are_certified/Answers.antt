use Rattle.tm_solve.proofs.RankCertificates.{meets_ranks, meets_move_form}
use Rattle.tm_solve.proofs.certificates.ranked_sets_are_certified.Goals as goal

pub returns-clause-conditions : goal.returns-clause-conditions
returns-clause-conditions c = λ d op g sets exact fit. meets_ranks sets exact fit

pub returns-clause-whole : goal.returns-clause-whole
returns-clause-whole c = λ d op g sets exact fit. (meets_move_form sets exact fit, λ m. m.c1)
