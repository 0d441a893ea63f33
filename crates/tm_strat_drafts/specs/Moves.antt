-- What blocks are chosen from: tests of states, and the states at which moves are good while a goal is pending. In all
-- files g is such a choice, s is a state, and ids are names of sets.
use Rattle.std.specs.Prelude.{◌≡◌, ℕ, ◌+◌, ◌<◌, ◌==◌, List, nat_lt, if◌then◌else◌}
use Rattle.tm_dd.specs.declared.node.NodeId.{NodeId}
use Rattle.tm_sem.specs.State.{StateData}
use Rattle.tm_solve.specs.Ids.{Ids}
use Rattle.tm_solve.specs.Sets.{StateSet, IsAmong, IsWithin}
use Rattle.tm_strat_drafts.specs.Sets.{HasState}
use Rattle.tm_strat_drafts.specs.declared.drafts.MoveChoice.{MoveChoice}

-- the valid states; tests of states by number, of which there are so many, and where each holds; so many goals, where a
-- move is good while a goal is pending, and states at each of which some move is; and the goal that is pending
pub record Game : Type 0 where
  pub states : List StateData
  pub tests : ℕ
  pub holds : ℕ → StateSet
  pub goals : ℕ
  pub good : ℕ → MoveChoice → StateSet
  pub region : ℕ → StateSet
  pub pending : ℕ

-- how many tests there are: behind those of states one for each goal, whether it is pending
abbrev pub all_tests : Game → ℕ
all_tests g = g.tests + g.goals

-- where a test passes while the goal is pending that is
abbrev pub passes : Game → ℕ → StateSet
passes g k s = if nat_lt k g.tests then g.holds k s else k == g.tests + g.pending

-- where a move is good then
abbrev pub good_now : Game → MoveChoice → StateSet
good_now g m = g.good g.pending m

-- states at each of which some move is
abbrev pub region_now : Game → StateSet
region_now g = g.region g.pending

-- what blocks are chosen from while another goal is pending
abbrev pub turned : Game → ℕ → Game
turned g goal = record g { pending = goal }

-- states that no test of states tells apart are one: each bit of a state is a test
pub record IsTold (g : Game) : Type 0 where
  pub told : (s t : StateData) → IsAmong s g.states → IsAmong t g.states →
      ((k : ℕ) → k < g.tests → g.holds k s ≡ g.holds k t) → s ≡ t

-- a number of all tests, of which there is one
pub record IsCount (g : Game) (tests : ℕ) : Type 0 where
  pub count : tests ≡ all_tests g
  pub some : 0 < tests

-- a set for which blocks are made: it is known, lies where some move is good, and has a state
pub record IsCare (g : Game) (ids : Ids) (set : NodeId) : Type 0 where
  pub known : ids.knows set
  pub within : IsWithin g.states (ids.means set) (region_now g)
  pub some : HasState g.states (ids.means set)
