use Rattle.tm_dd.specs.Reduced.{Extends}
use Rattle.tm_dd.specs.Table.{means}
use Rattle.tm_game_bits.specs.Diagrams.{IsSetOf}
use Rattle.tm_game_bits.specs.Inner.Loops.{HasGoodBelow}
use Rattle.tm_game_bits.proofs.game.GameDiagrams.acts.Given as goal

abbrev pub invariant-loop-step : goal.invariant-loop-step
invariant-loop-step l = record {
  extends : Extends l.fn.dd.table l.dd.table;
  set : IsSetOf l.dd.table (HasGoodBelow l.fn.dd.table (means l.fn.dd.table l.self.turn) (means l.fn.dd.table l.set)
      l.self.driver.items l.step-index) l.acting;
}
