use Rattle.std.proofs.Common.{◌≡◌, ◌≤◌, ◌-◌, ℕ, [], length}
use Rattle.tm_refine.specs.Carried.{AreCarried}
use Rattle.tm_refine.specs.Searching.{AreFailed, IsSearching}
use Rattle.tm_solve.specs.Fixpoints.{Holds, InRegion}
use Rattle.tm_syntax.specs.Design.{DesignTree}
use Rattle.tm_refine.proofs.narrowing.widen.Given as goal

abbrev pub invariant-fails : goal.invariant-fails
invariant-fails g l = record {
  of : (d : DesignTree) → (g.A.Arena.ids l.fn.sided.arena).of d → (g.A.Arena.ids l.sided.arena).of d;
  game : g.A.Arena.game l.sided.arena ≡ g.A.Arena.game l.fn.sided.arena;
  side : l.sided.upper ≡ l.fn.sided.upper;
  known : (g.A.Arena.ids l.sided.arena).knows l.kept;
  holds : Holds (g.A.Arena.game l.sided.arena).states ((g.A.Arena.ids l.sided.arena).means l.kept)
      (InRegion (g.A.Arena.game l.sided.arena));
  searching : (d : DesignTree) (first : ℕ) → (g.A.Arena.ids l.fn.sided.arena).of d →
      IsSearching d first l.fn.sided.tracked.items [] → IsSearching d first l.sided.tracked.items l.added.items;
  failed : (d : DesignTree) (first : ℕ) → (g.A.Arena.ids l.fn.sided.arena).of d →
      IsSearching d first l.fn.sided.tracked.items [] → AreFailed d first l.added.items l.fn.sided.upper l.count;
  carried : (d : DesignTree) (first : ℕ) → (g.A.Arena.ids l.fn.sided.arena).of d →
      IsSearching d first l.fn.sided.tracked.items [] → AreCarried d first l.added.items
      (g.A.Arena.game l.sided.arena) (g.A.Arena.ids l.sided.arena) l.count l.far;
  within : l.count ≤ length l.added.items;
}

abbrev pub decreases-fails : goal.decreases-fails
decreases-fails g l = g.A.Arena.size l.fn.sided.arena - length l.added.items
