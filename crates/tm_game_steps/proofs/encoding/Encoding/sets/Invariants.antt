use Rattle.std.proofs.Common.{take}
use Rattle.tm_dd.specs.Reduced.{Extends}
use Rattle.tm_dd.specs.Table.{means}
use Rattle.tm_game_steps.specs.Sets.{AreSets, IsOneIn}
use Rattle.tm_game_steps.specs.Setting.{IsReady, setting_of}
use Rattle.tm_game_steps.proofs.encoding.Encoding.sets.Given as goal

abbrev pub invariant-loop-id : goal.invariant-loop-id
invariant-loop-id l = record {
  extends : Extends l.fn.dd.table l.dd.table;
  ready : IsReady (setting_of l.self) l.dd.table l.made;
  sets : AreSets l.dd.table (IsOneIn (setting_of l.self) (means l.fn.dd.table l.valid)) (take l.id-index l.ids)
      l.nodes.items;
}
