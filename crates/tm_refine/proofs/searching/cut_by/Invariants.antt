use Rattle.std.proofs.Common.{◌≡◌, ℕ, List, ◌++◌}
use Rattle.tm_refine.specs.declared.trace.Added.{Added as Addition}
use Rattle.tm_syntax.specs.Design.{DesignTree}
use Rattle.tm_refine.specs.Numbers.{left_below}
use Rattle.tm_solve.specs.Ids.{Stay}
use Rattle.tm_refine.specs.Searching.{IsSearching}
use Rattle.tm_refine.proofs.searching.cut_by.Given as goal

abbrev pub invariant-pairs : goal.invariant-pairs
invariant-pairs g l = record {
  stay : Stay (g.A.Arena.ids l.fn.sided.arena) (g.A.Arena.ids l.sided.arena);
  game : g.A.Arena.game l.sided.arena ≡ g.A.Arena.game l.fn.sided.arena;
  side : l.sided.upper ≡ l.fn.sided.upper;
  searching : (d : DesignTree) (first : ℕ) → (g.A.Arena.ids l.fn.sided.arena).of d →
      IsSearching d first l.fn.sided.tracked.items l.fn.added.items →
      IsSearching d first l.sided.tracked.items l.added.items;
  longer : (more : List Addition) × (l.added.items ≡ l.fn.added.items ++ more);
  same : l.added.items ≡ l.fn.added.items → l.sided.tracked.items ≡ l.fn.sided.tracked.items;
}

abbrev pub decreases-pairs : goal.decreases-pairs
decreases-pairs g l = left_below (g.A.Arena.size l.fn.sided.arena) l.sided.tracked.items
