use Rattle.std.proofs.Common.{◌-◌}
use Rattle.tm_dd.specs.Table.{depth_of}
use Rattle.tm_numbering.proofs.numbering.+number.Given as goal

abbrev pub decreases-number : goal.decreases-number
decreases-number l = l.store.now.levels - depth_of l.store.now l.id
