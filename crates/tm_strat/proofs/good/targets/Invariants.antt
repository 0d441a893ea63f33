use Rattle.std.proofs.Common.{ℕ, suc}
use Rattle.tm_ddops.specs.Manager.{IsFunction}
use Rattle.tm_game.specs.Game.{IsSet}
use Rattle.tm_strat.specs.Targets.{AreSets}
use Rattle.tm_strat.specs.Zones.{AreTargets, Tells, Zoning, before}
use Rattle.tm_strat_drafts.specs.Growth.{Carried}
use Rattle.tm_strat.proofs.good.targets.Given as goal

abbrev pub invariant-loop-index : goal.invariant-loop-index
invariant-loop-index l = record {
  grows : Carried l.fn.game l.game;
  sets : AreSets l.game l.targets.items;
  set : IsSet l.game l.within;
  are : (j : ℕ) (z : Zoning) → Tells l.fn.game l.fn.region l.ranks j z →
      AreTargets l.game.diagrams.table z (suc l.index) l.targets.items
      × IsFunction l.game.diagrams.table l.within (before z l.index);
}
