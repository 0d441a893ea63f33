use Rattle.std.proofs.Common.{◌≡◌, ◌++◌, take}
use Rattle.tm_game.specs.Inner.Listed.{change_ids}
use Rattle.tm_game.proofs.gather.push_changes.Given as goal

abbrev pub invariant-loop-change : goal.invariant-loop-change
invariant-loop-change l = l.ids.items ≡ l.fn.ids.items ++ change_ids (take l.change-index l.changes)
