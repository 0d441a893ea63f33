-- Levels of states that are lost, each with a chain for each fairness condition.
use Rattle.std.specs.Prelude.{◌≡◌, ℕ, ◌<◌, true, false, List, [], ◌∷◌, length, slice_get, Some}
use Rattle.tm_sem.specs.State.{StateData}
use Rattle.tm_sem.specs.Certificates.{Level, nowhere}
use Rattle.tm_solve.specs.Sets.{StateSet, IsAmong, IsWithin, IsSame, Gains, outside, common}
use Rattle.tm_solve.specs.Game.{Game}
use Rattle.tm_solve.specs.Narrowed.{narrowed}

-- the sets of a chain grow, and each leaves in what the operator makes of what the set before it left in of Z
abbrev pub AreLinks : Game → StateSet → StateSet → ℕ → ℕ → StateSet → List StateSet → Type 0
AreLinks g z y j i before [] = Unit {0}
AreLinks g z y j i before (c ∷ cs) =
    (IsWithin g.states before c × IsWithin g.states (g.part z y (common (outside before) z) j i) (outside c))
    × AreLinks g z y j i c cs

-- the last set of a chain, or the one before the first where there is none
abbrev pub last_link : StateSet → List StateSet → StateSet
last_link before [] = before
last_link before (c ∷ cs) = last_link c cs

-- a chain of a level is not empty and lies in the level, it leads on at states outside the level before, and its last
-- set holds each new state
pub record ChainFits (g : Game) (before : StateSet) (l : Level) (i : ℕ) (chain : List StateSet) : Type 0 where
  pub some : 0 < length chain
  pub links : AreLinks (narrowed g (outside before)) (outside before) (outside l.set) l.goal i nowhere chain
  pub inside : IsWithin g.states (last_link nowhere chain) l.set
  pub ends : (s : StateData) → IsAmong s g.states → before s ≡ false → l.set s ≡ true →
      last_link nowhere chain s ≡ true

-- a level holds the level before and a new state, and has one chain for each fairness condition
pub record IsLevel (g : Game) (before : StateSet) (l : Level) : Type 0 where
  pub goal : l.goal < g.goals
  pub grows : IsWithin g.states before l.set
  pub gains : Gains g.states before l.set
  pub count : length l.chains ≡ g.fairs
  pub chains : (i : ℕ) (chain : List StateSet) → slice_get l.chains i ≡ Some chain → ChainFits g before l i chain

-- each is one over the level before it
abbrev pub AreLevels : Game → StateSet → List Level → Type 0
AreLevels g before [] = Unit {0}
AreLevels g before (l ∷ ls) = IsLevel g before l × AreLevels g l.set ls

-- the last level, or the one before the first where there is none
abbrev pub last_of_levels : StateSet → List Level → StateSet
last_of_levels before [] = before
last_of_levels before (l ∷ ls) = last_of_levels l.set ls

-- levels that lead from no state to all that are outside the region
pub record LevelsFit (g : Game) (region : StateSet) (items : List Level) : Type 0 where
  pub levels : AreLevels g nowhere items
  pub last : IsSame g.states (last_of_levels nowhere items) (outside region)
