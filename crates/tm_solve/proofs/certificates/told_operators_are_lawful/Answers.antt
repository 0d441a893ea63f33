use Rattle.tm_solve.specs.OperatorLaws.{monotone_of, absorbing_of}
use Rattle.tm_solve.proofs.certificates.told_operators_are_lawful.Goals as goal

pub returns-clause-monotone : goal.returns-clause-monotone
returns-clause-monotone c = monotone_of

pub returns-clause-absorbing : goal.returns-clause-absorbing
returns-clause-absorbing c = absorbing_of
