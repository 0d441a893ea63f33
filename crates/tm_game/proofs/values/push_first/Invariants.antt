use Rattle.std.proofs.Common.{◌≡◌, ◌++◌, ◌-◌, map}
use Rattle.std.specs.List.{range_with_len}
use Rattle.tm_dd.specs.Table.{assignment}
use Rattle.tm_game.proofs.values.push_first.Given as goal

abbrev pub invariant-loop-place : goal.invariant-loop-place
invariant-loop-place l =
    l.values.items ++ map (assignment l.bits) (range_with_len l.place (l.count - l.place))
    ≡ l.fn.values.items ++ map (assignment l.bits) (range_with_len 0 l.count)
