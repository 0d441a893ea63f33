use Rattle.tm_dd.specs.Reduced.{Extends}
use Rattle.tm_dd.specs.Table.{means}
use Rattle.tm_game_bits.specs.Diagrams.{IsSetOf, game_of}
use Rattle.tm_game.specs.Inner.Good.{HasGoodLeaveBelow}
use Rattle.tm_game.proofs.moves.good_leaves.Given as goal

abbrev pub invariant-loop-index : goal.invariant-loop-index
invariant-loop-index l = record {
  extends : Extends l.fn.dd.table l.dd.table;
  set : IsSetOf l.dd.table (HasGoodLeaveBelow (game_of l.fn.dd.table l.made.steps) (means l.fn.dd.table l.set)
      l.made.movers.items l.first l.process l.index) l.good;
}
