use Rattle.std.proofs.Common.{◌*◌, ◌+◌, ◌-◌, length}
use Rattle.tm_struct.proofs.shaping.+writing.Given as goal

abbrev pub decreases-tree : goal.decreases-tree
decreases-tree l = 2 * (length l.blocks.now - l.at)

abbrev pub decreases-branch : goal.decreases-branch
decreases-branch l = 2 * (length l.blocks.now - l.at) + 1
