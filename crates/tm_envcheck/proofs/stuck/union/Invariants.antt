use Rattle.std.proofs.Common.{◌≡◌, take}
use Rattle.std.specs.List.{list_any}
use Rattle.tm_dd.specs.declared.node.NodeId.{NodeId}
use Rattle.tm_dd.specs.Table.{means}
use Rattle.tm_game_bits.specs.Functions.{Assignment}
use Rattle.tm_game.specs.Game.{Grows, IsSet}
use Rattle.tm_envcheck.proofs.stuck.union.Given as goal

abbrev pub invariant-loop-set : goal.invariant-loop-set
invariant-loop-set l = record {
  grows : Grows l.fn.game l.game;
  held : IsSet l.game l.held;
  value : (v : Assignment) → means l.game.diagrams.table l.held v
      ≡ list_any (λ (id : NodeId). means l.fn.game.diagrams.table id v) (take l.set-index l.chain);
}
