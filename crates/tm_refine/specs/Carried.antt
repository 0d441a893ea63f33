-- What is carried from a solution of the upper side that failed to one over more cells: the states that are left, and
-- the levels that lead to all others.
-- d a design, predicates those whose cells are meant, g the exact game, ids what the ids of sets mean.
use Rattle.std.specs.Prelude.{◌≡◌, ℕ, ◌≤◌, List, Option, None, Some, map}
use Rattle.tm_flat_pool.specs.Cells.{IsUnion}
use Rattle.tm_flat_pool.specs.Predicates.{Predicate, predicate_holds}
use Rattle.tm_refine.specs.declared.trace.Added.{Added}
use Rattle.tm_refine.specs.Parts.{upper_game}
use Rattle.tm_refine.specs.Searching.{tracked_at}
use Rattle.tm_sem.specs.State.{StateData}
use Rattle.tm_solve.specs.Begun.{IsBegun}
use Rattle.tm_solve.specs.Game.{Game}
use Rattle.tm_solve.specs.Ids.{Ids}
use Rattle.tm_solve.specs.declared.iterates.Iterates.{Iterates}
use Rattle.tm_solve.specs.Sets.{StateSet}
use Rattle.tm_syntax.specs.Design.{DesignTree}

-- predicates as tests of states
abbrev pub own_tests : DesignTree → List Predicate → List StateSet
own_tests d predicates = map (λ (p : Predicate). λ (s : StateData). predicate_holds d s p) predicates

-- the ids of unions of cells
abbrev pub union_ids : DesignTree → List Predicate → Ids → Ids
union_ids d predicates ids = record {
  knows = λ id. ids.knows id × IsUnion d predicates (ids.means id);
  kept = ids.kept;
  means = ids.means;
  of = ids.of;
  side = ids.side;
}

-- iterates from which a solution of the upper side over these cells may go on
abbrev pub IsCarried : DesignTree → List Predicate → Game → Ids → Iterates → Type 0
IsCarried d predicates g ids it = IsBegun (upper_game (own_tests d predicates) g) (union_ids d predicates ids) it

-- iterates from which a solution of the upper side may go on over each prefix of the additions not shorter than this
pub record AreCarried (d : DesignTree) (first : ℕ) (added : List Added) (g : Game) (ids : Ids) (low : ℕ)
    (it : Iterates) : Type 0 where
  pub each : (m : ℕ) → low ≤ m → IsCarried d (tracked_at d first added m) g ids it

-- after a solution of a side: where it failed over these cells, one over them may go on from what it left, and where it
-- won, one over any cells may go on from what is carried if it might before
abbrev pub CarriesOn : DesignTree → List Predicate → Game → Ids → Ids → Iterates → Iterates → Option Iterates → Type 0
CarriesOn d predicates g a b far far' None = IsCarried d predicates g a far → IsCarried d predicates g b far'
CarriesOn d predicates g a b far far' (Some it) =
    (others : List Predicate) → IsCarried d others g a far → IsCarried d others g b far'
