use Rattle.tm_base.proofs.Cuts.{greatest-shr}
use Rattle.tm_base.proofs.operations.greatest.Goals as goal

pub returns : goal.returns
returns c = greatest-shr c.args.width c.requires.1
