use Rattle.std.proofs.Common.{refl}
use Rattle.tm_dd.specs.Hasher.{taken}
use Rattle.tm_dd.proofs.hasher.NumberHasher.taking.Goals as goal

pub returns : goal.returns
unfolding taken
returns c = refl
