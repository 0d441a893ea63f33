use Rattle.std.proofs.Common.{suc, length}
use Rattle.tm_strat.specs.Zones.{AreWaits, AreZones, Zoning}
use Rattle.tm_strat_drafts.specs.Growth.{Carried}
use Rattle.tm_strat.proofs.good.push_zones.Given as goal

abbrev pub invariant-loop-index : goal.invariant-loop-index
invariant-loop-index l = record {
  grows : Carried l.fn.game l.game;
  are : (z : Zoning) → AreZones l.fn.game.diagrams.table z 1 l.fn.zones.items →
      AreWaits l.fn.game.diagrams.table z (length z.ranks) l.waits →
      AreZones l.game.diagrams.table z (suc l.index) l.zones.items;
}
