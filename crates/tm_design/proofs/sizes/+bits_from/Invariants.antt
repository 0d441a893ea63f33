use Rattle.std.proofs.Common.{◌-◌}
use Rattle.tm_design.proofs.sizes.+bits_from.Given as goal

abbrev pub decreases-bits_from : goal.decreases-bits_from
decreases-bits_from l = 64 - l.count
