use Rattle.std.proofs.Common.{◌≡◌, length, take}
use Rattle.tm_envcheck.specs.Inner.Loaded.{AreLoadedLevels, before_at}
use Rattle.tm_envcheck.specs.Inner.Over.{AreLevelsOver}
use Rattle.tm_game.specs.Game.{Grows, IsSet}
use Rattle.tm_envcheck.proofs.levels.load_levels.Given as goal

abbrev pub invariant-loop-level : goal.invariant-loop-level
invariant-loop-level l = record {
  grows : Grows l.fn.game l.game;
  over : AreLevelsOver l.game l.told.items;
  loaded : AreLoadedLevels l.ids (take l.level-index l.levels) l.told.items;
  set : IsSet l.game l.before;
  last : l.before ≡ before_at l.told.items (length l.told.items);
}
