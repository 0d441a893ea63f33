use Rattle.std.proofs.Common.{◌≡◌, map, take}
use Rattle.serde_json.specs.View.{view}
use Rattle.tm_cert.specs.Written.{goal_data}
use Rattle.tm_cert.proofs.write.goals_value.Given as goal

abbrev pub invariant-loop-ranks : goal.invariant-loop-ranks
invariant-loop-ranks l = map view l.items.items ≡ map (λ part. goal_data part.items) (take l.ranks-index l.goals)
