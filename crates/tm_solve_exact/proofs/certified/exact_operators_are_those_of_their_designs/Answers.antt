use Rattle.tm_solve_exact.proofs.Exactness.{exact_is}
use Rattle.tm_solve_exact.proofs.certified.exact_operators_are_those_of_their_designs.Goals as goal

pub returns : goal.returns
returns c = exact_is
