use Rattle.std.proofs.Common.{◌≡◌, true}
use Rattle.tm_flat_pool.specs.Predicates.{pool}
use Rattle.tm_game_pool.specs.Separating.{predicates_at}
use Rattle.tm_refine.specs.Carried.{IsCarried}
use Rattle.tm_solve.specs.Ids.{Stay}
use Rattle.tm_solve.specs.Sets.{count}
use Rattle.tm_syntax.specs.Design.{DesignTree}
use Rattle.tm_refine.proofs.solving.solve_upper.Given as goal

abbrev pub invariant-rounds : goal.invariant-rounds
invariant-rounds g l = record {
  stay : Stay (g.A.Arena.ids l.fn.sided.arena) (g.A.Arena.ids l.sided.arena);
  game : g.A.Arena.game l.sided.arena ≡ g.A.Arena.game l.fn.sided.arena;
  tracked : l.sided.tracked.items ≡ l.fn.sided.tracked.items;
  side : l.sided.upper ≡ true;
  carried : (d : DesignTree) → (g.A.Arena.ids l.fn.sided.arena).of d →
      IsCarried d (predicates_at (pool d) l.fn.sided.tracked.items) (g.A.Arena.game l.fn.sided.arena)
      (g.A.Arena.ids l.sided.arena) l.far;
}

abbrev pub decreases-rounds : goal.decreases-rounds
decreases-rounds g l =
    count (g.A.Arena.game l.fn.sided.arena).states ((g.A.Arena.ids l.sided.arena).means l.far.region)
