-- The game of a design with its pool, as it is decided over predicates.
-- d a design, g and h the data of a game, ks numbers of predicates.
use Rattle.std.specs.Prelude.{◌≡◌, ℕ, ◌==◌, List, length, map, replicate}
use Rattle.tm_flat.specs.Inputs.{input_values, room}
use Rattle.tm_game.specs.Game.{GameData, Grows}
use Rattle.tm_game_pool.specs.Pooled.{HasPool}
use Rattle.tm_game_pool.specs.Separating.{predicates_at}
use Rattle.tm_sem.specs.State.{StateData}
use Rattle.tm_sem.specs.Step.{IsInitial, IsState}
use Rattle.tm_solve.specs.Ids.{Follows, Ids}
use Rattle.tm_solve.specs.Sets.{StateSet}
use Rattle.tm_solve_exact.specs.Exact.{HasDesign, IsStateSet, exact_game, exact_side, set_of}
use Rattle.tm_solve_exact.specs.Solving.{CanSolve}
use Rattle.tm_syntax.specs.Design.{DesignTree}
use Rattle.tm_term.specs.declared.term.TermId.{TermId}
use Rattle.tm_term.specs.Value.{value_of}

-- a game is that of a design that can be solved over it, whose initial states are valid, and has its pool
pub record CanDecide (d : DesignTree) (g : GameData) : Type 0 where
  pub solve : CanSolve d g
  pub initial : (s : StateData) → IsInitial d s → IsState d s
  pub pool : HasPool d g

-- a game is that of some design, and has its pool
abbrev pub CanBeDecided : GameData → Type 0
CanBeDecided g = ∥ ((d : DesignTree) × CanDecide d g) ∥₁

-- bits of choices or of arguments, none of which is set
abbrev pub no_bits : List ℕ
no_bits = replicate room 0

-- the states at which a term is 1
abbrev pub term_test : GameData → TermId → StateSet
term_test g id s = value_of g.terms (input_values s no_bits no_bits) id == 1

-- the predicates of these numbers as tests
abbrev pub tests_of : GameData → List ℕ → List StateSet
tests_of g ks = map (term_test g) (predicates_at g.flat.pool ks)

-- the ids that are known, their sets, the designs that can be decided, and the side of the exact operator
abbrev pub pool_ids : GameData → Ids
pool_ids g = record {
  knows = IsStateSet g;
  kept = IsStateSet g;
  means = set_of g;
  of = λ d. CanDecide d g;
  side = exact_side (exact_game g);
}

-- what a call leaves of a game that is decided
pub record Keeps (g h : GameData) : Type 0 where
  pub follows : Follows (exact_game g) (pool_ids g) (exact_game h) (pool_ids h)
  pub tests : tests_of h ≡ tests_of g
  pub can : CanBeDecided h
  pub of : HasDesign h
  pub grows : Grows g h

-- what is left of a game that is decided where sets are forgotten
pub record Forgets (g h : GameData) : Type 0 where
  pub game : exact_game h ≡ exact_game g
  pub designs : (d : DesignTree) → CanDecide d g → CanDecide d h
  pub can : CanBeDecided h
  pub of : HasDesign h
  pub goals : length h.goals ≡ length g.goals
  pub fairs : length h.fairs ≡ length g.fairs
