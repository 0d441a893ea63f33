use Rattle.std.proofs.Common.{All, take}
use Rattle.tm_dd.specs.Table.{Knows}
use Rattle.test_game.proofs.knowing.knows_all.Given as goal

abbrev pub invariant-loop-id : goal.invariant-loop-id
invariant-loop-id l = All (Knows l.dd.table) (take l.id-index l.ids)
