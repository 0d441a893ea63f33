use Rattle.std.proofs.Common.{refl}
use Rattle.tm_strat.proofs.Giving.{nothing_given}
use Rattle.tm_strat.proofs.reading.not_given.Goals as goal

pub returns : goal.returns
returns c = λ d g shapes b. nothing_given d g shapes b _ refl c.new.ensures.items
