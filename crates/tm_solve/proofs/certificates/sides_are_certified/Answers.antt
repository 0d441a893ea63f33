use Rattle.tm_solve.proofs.Siding.{levels_fit_below, ranks_fit_above}
use Rattle.tm_solve.proofs.certificates.sides_are_certified.Goals as goal

pub returns-clause-ranks : goal.returns-clause-ranks
returns-clause-ranks c = λ g part sets below fit. ranks_fit_above g part sets below fit

pub returns-clause-levels : goal.returns-clause-levels
returns-clause-levels c = λ g part region levels below fit. levels_fit_below g part region levels below fit
