use Rattle.std.proofs.Common.{◌≡◌, ◌++◌, take}
use Rattle.tm_game.proofs.values.push_longer.Given as goal

abbrev pub invariant-loop-number : goal.invariant-loop-number
invariant-loop-number l = l.numbers.items ≡ l.fn.numbers.items ++ take l.number-index l.short
