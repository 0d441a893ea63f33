use Rattle.std.proofs.Common.{◌+◌, ◌*◌}
use Rattle.test_commands.proofs.drawn.draw.+draw.Given as goal

abbrev pub decreases-binary : goal.decreases-binary
decreases-binary l = 2 * l.depth

abbrev pub decreases-conditional : goal.decreases-conditional
decreases-conditional l = 2 * l.depth

abbrev pub decreases-junction : goal.decreases-junction
decreases-junction l = 2 * l.depth

abbrev pub decreases-num : goal.decreases-num
decreases-num l = 2 * l.depth + 1

abbrev pub decreases-shift : goal.decreases-shift
decreases-shift l = 2 * l.depth

abbrev pub decreases-truth : goal.decreases-truth
decreases-truth l = 2 * l.depth + 1
