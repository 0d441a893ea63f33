use Rattle.std.proofs.Common.{◌≡◌, map, take}
use Rattle.tm_reorder.specs.Inner.Keys.{driver_keys}
use Rattle.tm_reorder.proofs.keys.driver_keys.Given as goal

abbrev pub invariant-loop-ranks : goal.invariant-loop-ranks
invariant-loop-ranks l =
    l.keys.items ≡ driver_keys l.region (map (λ ranks. ranks.items) (take l.ranks-index l.goals))
