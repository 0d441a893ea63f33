use Rattle.tm_dd.specs.Reduced.{Extends}
use Rattle.tm_flat.specs.Flat.{flat_terms}
use Rattle.tm_game_steps.specs.Inner.Pushed.{AreTaskSteps}
use Rattle.tm_game_steps.specs.Setting.{IsReady, setting_of}
use Rattle.tm_game_steps.proofs.encoding.Encoding.push_tasks.Given as goal

abbrev pub invariant-loop-task : goal.invariant-loop-task
invariant-loop-task l = record {
  extends : Extends l.fn.dd.table l.dd.table;
  ready : IsReady (setting_of l.self) l.dd.table l.made;
  below : AreTaskSteps (setting_of l.self) (flat_terms l.flat) l.dd.table l.fn.list.items l.list.items l.task;
}
