use Rattle.std.proofs.Common.{◌≡◌, ◌++◌, take}
use Rattle.tm_reorder.specs.Inner.Keys.{rank_keys}
use Rattle.tm_reorder.proofs.keys.push_ranks.Given as goal

abbrev pub invariant-loop-rank : goal.invariant-loop-rank
invariant-loop-rank l = l.keys.items ≡ l.fn.keys.items ++ rank_keys (take l.rank-index l.ranks)
