use Rattle.std.proofs.Common.{◌≡◌, ◌≤◌, ◌-◌, length}
use Rattle.tm_syntax.specs.Design.{DesignTree}
use Rattle.tm_solve.specs.Ids.{Stay}
use Rattle.tm_solve.specs.Iterates.{KnowsAll}
use Rattle.tm_refine.specs.Carried.{AreCarried}
use Rattle.tm_refine.specs.Searching.{AreFailed, IsWonAt}
use Rattle.tm_refine.proofs.narrowing.narrow.Given as goal

abbrev pub invariant-tries : goal.invariant-tries
invariant-tries g l = record {
  stay : Stay (g.A.Arena.ids l.fn.sided.arena) (g.A.Arena.ids l.sided.arena);
  game : g.A.Arena.game l.sided.arena ≡ g.A.Arena.game l.fn.sided.arena;
  side : l.sided.upper ≡ l.fn.sided.upper;
  order : l.low ≤ l.high;
  within : l.high ≤ length l.added;
  known : KnowsAll (g.A.Arena.ids l.sided.arena) l.it;
  carried : (d : DesignTree) → (g.A.Arena.ids l.fn.sided.arena).of d →
      AreCarried d l.first l.added (g.A.Arena.game l.fn.sided.arena) (g.A.Arena.ids l.fn.sided.arena) l.fn.won.count
      l.fn.won.far →
      AreCarried d l.first l.added (g.A.Arena.game l.fn.sided.arena) (g.A.Arena.ids l.sided.arena) l.low l.far;
  failed : (d : DesignTree) → (g.A.Arena.ids l.fn.sided.arena).of d →
      AreFailed d l.first l.added l.fn.sided.upper l.fn.won.count →
      AreFailed d l.first l.added l.fn.sided.upper l.low;
  won : (d : DesignTree) → (g.A.Arena.ids l.fn.sided.arena).of d →
      IsWonAt d l.first l.added l.fn.sided.upper (g.A.Arena.ids l.fn.sided.arena) l.fn.won.it
      (length l.added) →
      IsWonAt d l.first l.added l.fn.sided.upper (g.A.Arena.ids l.sided.arena) l.it l.high;
}

abbrev pub decreases-tries : goal.decreases-tries
decreases-tries g l = l.high - l.low
