use Rattle.std.proofs.Common.{◌≡◌, map, take}
use Rattle.serde_json.specs.View.{view}
use Rattle.tm_cert.specs.Written.{rank_data}
use Rattle.tm_cert.proofs.write.ranks_value.Given as goal

abbrev pub invariant-loop-rank : goal.invariant-loop-rank
invariant-loop-rank l = map view l.items.items ≡ map rank_data (take l.rank-index l.ranks)
