use Rattle.tm_dd.specs.Reduced.{Extends}
use Rattle.tm_game_bits.specs.Diagrams.{IsSetOf, game_of}
use Rattle.tm_game.specs.Inner.Permitted.{HasPermittedLeaveBelow}
use Rattle.tm_game.proofs.permitted.permitted_leaves.Given as goal

abbrev pub invariant-loop-index : goal.invariant-loop-index
invariant-loop-index l = record {
  extends : Extends l.fn.dd.table l.dd.table;
  set : IsSetOf l.dd.table (HasPermittedLeaveBelow (game_of l.fn.dd.table l.made.steps) l.made.movers.items l.first
      l.process l.index) l.permitted;
}
