-- A set of states a, and a test k that splits it.
use Rattle.std.specs.Prelude.{◌≡◌, ℕ, ◌<◌, true, not, ◌&&◌, Option, None, Some}
use Rattle.tm_sem.specs.State.{StateData}
use Rattle.tm_solve.specs.Ids.{Ids, Is}
use Rattle.tm_solve.specs.Sets.{StateSet, IsAmong}
use Rattle.tm_strat_drafts.specs.Moves.{Game, all_tests, passes}
use Rattle.tm_strat_drafts.specs.Sets.{HasState}
use Rattle.tm_strat_drafts.specs.declared.splitting.Split.{Split}

-- the states of a set at which a test passes
abbrev pub passing : Game → ℕ → StateSet → StateSet
passing g k a s = a s && passes g k s

-- those at which it does not pass
abbrev pub failing : Game → ℕ → StateSet → StateSet
failing g k a s = a s && not (passes g k s)

-- a test splits a set: each of the two parts has a state
pub record IsSplit (g : Game) (ids : Ids) (a : StateSet) (p : Split) : Type 0 where
  pub test : p.test < all_tests g
  pub first : Is g.states ids p.first (passing g p.test a)
  pub second : Is g.states ids p.second (failing g p.test a)
  pub some_first : HasState g.states (ids.means p.first)
  pub some_second : HasState g.states (ids.means p.second)

-- a test passes at all states of a set, or at none
pub record IsUniform (g : Game) (a : StateSet) (k : ℕ) : Type 0 where
  pub same : (s t : StateData) → IsAmong s g.states → IsAmong t g.states → a s ≡ true → a t ≡ true →
      passes g k s ≡ passes g k t

-- no test of the first so many splits a set
pub record AreUniform (g : Game) (a : StateSet) (n : ℕ) : Type 0 where
  pub each : (k : ℕ) → k < n → IsUniform g a k

-- a split, or none where no test splits the set
abbrev pub SplitOrNot : Game → Ids → StateSet → Option Split → Type 0
SplitOrNot g ids a None = AreUniform g a (all_tests g)
SplitOrNot g ids a (Some p) = IsSplit g ids a p

-- a split by one test, or none where that test does not split the set
abbrev pub SplitBy : Game → Ids → StateSet → ℕ → Option Split → Type 0
SplitBy g ids a k None = IsUniform g a k
SplitBy g ids a k (Some p) = IsSplit g ids a p
