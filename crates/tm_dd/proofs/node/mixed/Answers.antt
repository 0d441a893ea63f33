use Rattle.std.proofs.Common.{refl}
use Rattle.tm_dd.specs.Hashed.{mixed}
use Rattle.tm_dd.proofs.node.mixed.Goals as goal

pub returns : goal.returns
unfolding mixed
returns c = refl
