use Rattle.std.proofs.Common.{◌≡◌, ◌++◌, map, take}
use Rattle.tm_dd.specs.Table.{assignment}
use Rattle.tm_game.proofs.values.push_places.Given as goal

abbrev pub invariant-loop-place : goal.invariant-loop-place
invariant-loop-place l = l.values.items ≡ l.fn.values.items ++ map (assignment l.bits) (take l.place-index l.places)
