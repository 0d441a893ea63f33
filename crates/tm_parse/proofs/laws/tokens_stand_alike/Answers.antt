use Rattle.tm_parse.proofs.Standing.{stands_or_not, one_depth, both_stand, none_stand}
use Rattle.tm_parse.proofs.laws.tokens_stand_alike.Goals as goal

pub returns-clause-some : goal.returns-clause-some
returns-clause-some c = λ text tree front behind t is. stands_or_not front behind t is

pub returns-clause-one : goal.returns-clause-one
returns-clause-one c = λ text other tree also front behind after t depth deep a b. one_depth front behind after t a b

pub returns-clause-both : goal.returns-clause-both
returns-clause-both c = λ text other tree also front behind after t depth a is. both_stand front behind after t a is

pub returns-clause-neither : goal.returns-clause-neither
returns-clause-neither c = λ text other tree also front behind after t a is. none_stand front behind after t a is
