use Rattle.tm_dd.specs.Reduced.{Extends}
use Rattle.tm_game_bits.specs.Diagrams.{IsSetOf}
use Rattle.tm_game_steps.specs.Inner.Turns.{HasBlockBelow}
use Rattle.tm_game_steps.specs.Setting.{IsReady, setting_of}
use Rattle.tm_game_steps.proofs.encoding.Encoding.turn.Given as goal

abbrev pub invariant-loop-place : goal.invariant-loop-place
invariant-loop-place l = record {
  extends : Extends l.fn.dd.table l.dd.table;
  ready : IsReady (setting_of l.self) l.dd.table l.made;
  set : IsSetOf l.dd.table (HasBlockBelow (setting_of l.self) l.places l.place-index) l.turn;
}
