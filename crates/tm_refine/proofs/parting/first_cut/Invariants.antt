use Rattle.std.proofs.Common.{ℕ, ◌<◌}
use Rattle.tm_flat_pool.specs.Predicates.{pool}
use Rattle.tm_game.specs.Game.{Grows}
use Rattle.tm_game_pool.specs.Separating.{predicates_at}
use Rattle.tm_refine.specs.Apart.{HasOneBit}
use Rattle.tm_refine.specs.Pooled.{CanBeDecided, CanDecide}
use Rattle.tm_syntax.specs.Design.{DesignTree}
use Rattle.tm_refine.proofs.parting.first_cut.Given as goal

abbrev pub invariant-loop-level : goal.invariant-loop-level
invariant-loop-level l = record {
  grows : Grows l.fn.game l.game;
  can : CanBeDecided l.game;
  ones : (d : DesignTree) → CanDecide d l.fn.game → (k : ℕ) → k < l.level →
      HasOneBit d l.fn.game.order (predicates_at (pool d) l.cells.tracked.items) k;
}
