use Rattle.std.proofs.Common.{◌≡◌, map, take}
use Rattle.serde_json.specs.View.{view}
use Rattle.tm_cert.specs.Written.{level_data}
use Rattle.tm_cert.proofs.write.levels_value.Given as goal

abbrev pub invariant-loop-level : goal.invariant-loop-level
invariant-loop-level l = map view l.items.items ≡ map level_data (take l.level-index l.levels)
