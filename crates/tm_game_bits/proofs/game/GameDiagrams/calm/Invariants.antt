use Rattle.tm_dd.specs.Reduced.{Extends}
use Rattle.tm_dd.specs.Table.{means}
use Rattle.tm_game_bits.specs.Diagrams.{IsSetOf, game_of}
use Rattle.tm_game_bits.specs.Inner.Loops.{IsCalmBelow}
use Rattle.tm_game_bits.proofs.game.GameDiagrams.calm.Given as goal

abbrev pub invariant-loop-step : goal.invariant-loop-step
invariant-loop-step l = record {
  extends : Extends l.fn.dd.table l.dd.table;
  set : IsSetOf l.dd.table (IsCalmBelow l.fn.dd.table (game_of l.fn.dd.table l.self) (means l.fn.dd.table l.set)
      l.self.environment.items l.step-index) l.calm;
}
