-- The lower and the upper part of a step operator over cells (de Alfaro and Roy 2007): those of a list of tests.
use Rattle.std.specs.Prelude.{◌≡◌, Bool, true, false, not, ◌||◌, ◌&&◌, List, [], ◌∷◌}
use Rattle.tm_syntax.specs.Design.{DesignTree}
use Rattle.tm_sem.specs.State.{StateData}
use Rattle.tm_sem.specs.Step.{IsState}
use Rattle.tm_flat_pool.specs.Predicates.{Predicate}
use Rattle.tm_flat_pool.specs.Cells.{SameCell}
use Rattle.tm_solve.specs.Sets.{StateSet, IsAmong}
use Rattle.tm_solve.specs.Game.{Game}
use Rattle.tm_solve.specs.Sides.{with_part}

-- two truth values are one
abbrev pub agree : Bool → Bool → Bool
agree true b = b
agree false b = not b

-- two states are in one cell: each test has the same value at both
abbrev pub alike : List StateSet → StateData → StateData → Bool
alike [] s t = true
alike (p ∷ ps) s t = agree (p s) (p t) && alike ps s t

-- a set holds at every state of a list
abbrev pub at_all : List StateData → StateSet → Bool
at_all [] a = true
at_all (t ∷ ts) a = a t && at_all ts a

-- a set holds at some state of a list
abbrev pub at_some : List StateData → StateSet → Bool
at_some [] a = false
at_some (t ∷ ts) a = a t || at_some ts a

-- the cells that lie in a set
abbrev pub lower_part : List StateData → List StateSet → StateSet → StateSet
lower_part n ps a s = at_all n (λ t. not (alike ps s t) || a t)

-- the cells that meet a set
abbrev pub upper_part : List StateData → List StateSet → StateSet → StateSet
upper_part n ps a s = at_some n (λ t. alike ps s t && a t)

-- the game whose step operator is the lower part of that of a game
abbrev pub lower_game : List StateSet → Game → Game
lower_game ps g = with_part g (λ z y x j i. lower_part g.states ps (g.part z y x j i))

-- the game whose step operator is the upper part
abbrev pub upper_game : List StateSet → Game → Game
upper_game ps g = with_part g (λ z y x j i. upper_part g.states ps (g.part z y x j i))

-- of the listed states, a set holds whole cells
pub record IsUnionOf (n : List StateData) (ps : List StateSet) (a : StateSet) : Type 0 where
  pub same : (s t : StateData) → IsAmong s n → IsAmong t n → alike ps s t ≡ true → a s ≡ a t

-- tests have the cells of predicates
pub record TellCells (d : DesignTree) (predicates : List Predicate) (ps : List StateSet) : Type 0 where
  pub cell : (s t : StateData) → IsState d s → IsState d t → alike ps s t ≡ true → SameCell d predicates s t
  pub told : (s t : StateData) → IsState d s → IsState d t → SameCell d predicates s t → alike ps s t ≡ true
