-- Least and greatest fixpoints of sets of states, without iteration (Knaster and Tarski).
use Rattle.std.specs.Prelude.{◌≡◌, ℕ, ◌<◌, true, List}
use Rattle.tm_sem.specs.State.{StateData}
use Rattle.tm_solve.specs.Sets.{StateSet, IsAmong}
use Rattle.tm_solve.specs.Game.{Game}

-- a state is in the largest set of listed states that lies in what an operator makes of it
pub record InLargest (n : List StateData) (P : StateSet → StateData → Type 0) (s : StateData) : Type 0 where
  pub set : StateSet
  pub holds : (t : StateData) → IsAmong t n → set t ≡ true → P set t
  pub here : set s ≡ true

-- a state is in every set that holds, of the listed states, what an operator makes of it
pub record InLeast (n : List StateData) (P : StateSet → StateData → Type 0) (s : StateData) : Type 0 where
  pub every : (f : StateSet) → ((t : StateData) → IsAmong t n → P f t → f t ≡ true) → f s ≡ true

-- nu X . part(Z, Y, X, j, i)
abbrev pub InStay : Game → StateSet → StateSet → ℕ → ℕ → StateData → Type 0
InStay g z y j i = InLargest g.states (λ x t. g.part z y x j i t ≡ true)

-- OR_i nu X . part(Z, Y, X, j, i)
abbrev pub InSome : Game → StateSet → StateSet → ℕ → StateData → Type 0
InSome g z y j s = (i : ℕ) × (i < g.fairs) × InStay g z y j i s

-- mu Y . OR_i nu X . part(Z, Y, X, j, i)
abbrev pub InReach : Game → StateSet → ℕ → StateData → Type 0
InReach g z j = InLeast g.states (λ y t. InSome g z y j t)

-- nu Z . AND_j mu Y . OR_i nu X . part(Z, Y, X, j, i)
abbrev pub InRegion : Game → StateData → Type 0
InRegion g = InLargest g.states (λ z t. (j : ℕ) → j < g.goals → InReach g z j t)

-- a set holds, of the listed states, exactly those of which something holds
pub record Holds (n : List StateData) (set : StateSet) (P : StateData → Type 0) : Type 0 where
  pub only : (s : StateData) → IsAmong s n → set s ≡ true → P s
  pub all : (s : StateData) → IsAmong s n → P s → set s ≡ true
