use Rattle.std.proofs.Common.{◌≡◌, ℕ, ◌<◌, true, take}
use Rattle.std.specs.Prelude.{◌↔◌}
use Rattle.std.specs.List.{list_any}
use Rattle.tm_dd.specs.declared.node.NodeId.{NodeId}
use Rattle.tm_dd.specs.Table.{means}
use Rattle.tm_envcheck.specs.Inner.Stuck.{IsSettled, IsStuckBelow}
use Rattle.tm_envcheck.specs.Inner.Told.{chain_told}
use Rattle.tm_game_bits.specs.Functions.{Assignment}
use Rattle.tm_game.specs.Game.{Grows, IsOf, IsSet}
use Rattle.tm_game.specs.Least.{test_of}
use Rattle.tm_sem.specs.Certificates.{set_before}
use Rattle.tm_sem.specs.State.{StateData}
use Rattle.tm_sem.specs.Step.{IsState}
use Rattle.tm_syntax.specs.Design.{DesignTree}
use Rattle.tm_envcheck.proofs.stuck.stuck.Given as goal

abbrev pub invariant-loop-set : goal.invariant-loop-set
invariant-loop-set l = record {
  grows : Grows l.fn.game l.game;
  failing : IsSet l.game l.failing;
  held : IsSet l.game l.held;
  before : IsSet l.fn.game l.before;
  union : (v : Assignment) → means l.game.diagrams.table l.held v
      ≡ list_any (λ (id : NodeId). means l.fn.game.diagrams.table id v) (take l.set-index l.chain);
  lower : (d : DesignTree) →
      set_before (chain_told d l.fn.game l.chain) l.set-index ≡ test_of d l.fn.game l.before;
  value : (d : DesignTree) → IsOf d l.fn.game → (s : StateData) → IsState d s →
      (test_of d l.game l.failing s ≡ true)
      ↔ IsStuckBelow d (chain_told d l.fn.game l.chain) (test_of d l.fn.game l.unmet) (test_of d l.fn.game l.below)
      l.set-index s;
  settled : (d : DesignTree) → IsOf d l.fn.game → (s : StateData) → IsState d s → (x : ℕ) → x < l.set-index →
      IsSettled d (chain_told d l.fn.game l.chain) (test_of d l.fn.game l.below) x s;
}
