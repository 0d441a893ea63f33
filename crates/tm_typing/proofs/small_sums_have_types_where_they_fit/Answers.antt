use Rattle.tm_typing.proofs.Examples.{three_fits, one_type, four_does_not}
use Rattle.tm_typing.proofs.small_sums_have_types_where_they_fit.Goals as goal

pub returns-clause-fits : goal.returns-clause-fits
returns-clause-fits c = three_fits

pub returns-clause-one : goal.returns-clause-one
returns-clause-one c = one_type

pub returns-clause-none : goal.returns-clause-none
returns-clause-none c = four_does_not
