use Rattle.tm_blast.specs.Memory.{AreMade}
use Rattle.tm_blast.specs.Numbers.{level_lists}
use Rattle.tm_dd.specs.Reduced.{Extends}
use Rattle.tm_game_steps.specs.Inner.BelowChanged.{AreChangedBelow}
use Rattle.tm_game_steps.proofs.changing.changes.Given as goal

abbrev pub invariant-loop-input : goal.invariant-loop-input
invariant-loop-input l = record {
  extends : Extends l.fn.dd.table l.dd.table;
  made : AreMade l.terms (level_lists l.levels) l.dd.table l.made;
  below : AreChangedBelow l.terms (level_lists l.levels) l.dd.table l.next l.changes.items l.input;
}
