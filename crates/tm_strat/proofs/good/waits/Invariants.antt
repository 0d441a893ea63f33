use Rattle.std.proofs.Common.{ℕ}
use Rattle.tm_dd.specs.declared.node.NodeId.{NodeId}
use Rattle.tm_ddops.specs.Manager.{IsFunction}
use Rattle.tm_strat.specs.Zones.{AreWaits, Tells, Zoning, before, failing}
use Rattle.tm_strat_drafts.specs.Growth.{Carried}
use Rattle.tm_strat.proofs.good.waits.Given as goal

abbrev pub invariant-loop-index : goal.invariant-loop-index
invariant-loop-index l = record {
  grows : Carried l.fn.game l.game;
  are : (region : NodeId) (j : ℕ) (z : Zoning) → Tells l.fn.game region l.ranks j z →
      IsFunction l.fn.game.diagrams.table l.failing (failing z) →
      AreWaits l.game.diagrams.table z l.index l.waits.items
      × IsFunction l.game.diagrams.table l.before (before z l.index);
}
