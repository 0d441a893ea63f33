use Rattle.std.proofs.Common.{◌≡◌, map, take}
use Rattle.tm_cir.specs.View.{num_tree}
use Rattle.tm_struct.proofs.copying.copied_nums.Given as goal

abbrev pub invariant-loop-num : goal.invariant-loop-num
invariant-loop-num l = map num_tree l.copy.items ≡ map num_tree (take l.num-index l.nums)
