use Rattle.tm_dd.specs.Reduced.{Extends}
use Rattle.tm_flat.specs.Flat.{flat_terms}
use Rattle.tm_game_steps.specs.Inner.Pushed.{AreProcessesBelow}
use Rattle.tm_game_steps.specs.Setting.{IsReady, setting_of}
use Rattle.tm_game_steps.proofs.encoding.Encoding.push_processes.Given as goal

abbrev pub invariant-loop-index : goal.invariant-loop-index
invariant-loop-index l = record {
  extends : Extends l.fn.dd.table l.dd.table;
  ready : IsReady (setting_of l.self) l.dd.table l.made;
  below : AreProcessesBelow (setting_of l.self) (flat_terms l.flat) l.magic l.places l.index l.dd.table
      l.fn.list.items l.list.items l.movers.items;
}
