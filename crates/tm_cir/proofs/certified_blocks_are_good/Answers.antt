use Rattle.tm_cir.proofs.Deciding.{certified_blocks}
use Rattle.tm_cir.proofs.certified_blocks_are_good.Goals as goal

pub returns : goal.returns
returns c = certified_blocks
