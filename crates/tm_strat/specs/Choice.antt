-- What blocks are chosen from over a game. In all files g is a game, tests are ids of sets of states, goals are each
-- goal's good moves, o are those of one goal where there is one, and v and w are values of levels.
use Rattle.std.specs.Prelude.{◌≡◌, ℕ, ◌+◌, ◌-◌, ◌<◌, ◌≤◌, true, List, [], Option, None, Some, length, nat_lt}
use Rattle.std.specs.Prelude.{slice_get, slice_index_or, if◌then◌else◌}
use Rattle.tm_base.specs.Bits.{bits_of}
use Rattle.tm_dd.specs.declared.node.NodeId.{NodeId}
use Rattle.tm_dd.specs.declared.node.TheConstants.{FALSE}
use Rattle.tm_dd.specs.Table.{Knows, Table, means}
use Rattle.tm_flat.specs.Inputs.{room}
use Rattle.tm_game.specs.Game.{GameData}
use Rattle.tm_game_bits.specs.Functions.{Assignment}
use Rattle.tm_game_bits.specs.States.{AreOneState, ReadsState}
use Rattle.tm_sem.specs.State.{StateData}
use Rattle.tm_solve.specs.Sets.{IsAmong, StateSet}
use Rattle.tm_solve_exact.specs.Exact.{HasDesign, IsStateSet, coding, exact_game, exact_ids, set_of, valid_set}
use Rattle.tm_strat.specs.declared.choosing.GoalMoves.{GoalMoves}
use Rattle.tm_strat_drafts.specs.Growth.{Setting}
use Rattle.tm_strat_drafts.specs.Moves.{Game}
use Rattle.tm_strat_drafts.specs.declared.drafts.MoveChoice.{MoveChoice}
use Rattle.tm_strat_drafts.specs.declared.drafts.MoveChoice.TheVariants.{Candidate, Constant}

-- ---- moves
-- values of levels with the bits of a number from a level on, the first one the most significant of 64
abbrev pub with_bits : ℕ → ℕ → Assignment → Assignment
with_bits first bits v level =
    if nat_lt level first then v level else slice_index_or (bits_of 64 bits) (level - first) (v level)

-- the states at which pairs of a state and of arguments hold with the bits of a number for the arguments
abbrev pub constant_set : GameData → NodeId → ℕ → StateSet
constant_set g pairs bits s =
    means g.diagrams.table pairs (with_bits (length g.order) bits ((coding g).assignment_of s))

-- the states at which some move is good
abbrev pub care_in : Option GoalMoves → NodeId
care_in None = FALSE
care_in (Some m) = m.care

-- for each shape the pairs of a state and of arguments at which a move of it is good
abbrev pub pairs_of : Option GoalMoves → List NodeId
pairs_of None = []
pairs_of (Some m) = m.pairs.items

-- for each candidate the states at which it is good
abbrev pub candidates_of : Option GoalMoves → List NodeId
candidates_of None = []
candidates_of (Some m) = m.candidates.items

-- those of a number, none where there is none
abbrev pub id_in : List NodeId → ℕ → NodeId
id_in ids k = slice_index_or ids k FALSE

-- the states at which a move is good
abbrev pub good_in : GameData → Option GoalMoves → MoveChoice → StateSet
good_in g o (Candidate n) = set_of g (id_in (candidates_of o) n)
good_in g o (Constant shape bits) = constant_set g (id_in (pairs_of o) shape) bits

-- ---- the choice
-- what blocks are chosen from while a goal is pending
abbrev pub choice : GameData → List NodeId → List GoalMoves → ℕ → Game
choice g tests goals pending = record {
  states = (exact_game g).states;
  tests = length tests;
  holds = λ k. set_of g (id_in tests k);
  goals = length goals;
  good = λ j. good_in g (slice_get goals j);
  region = λ j. set_of g (care_in (slice_get goals j));
  pending = pending;
}

-- what blocks are chosen from while a goal is pending, with the game and its ids of sets of states
abbrev pub setting_of : GameData → List NodeId → List GoalMoves → ℕ → Setting
setting_of g tests goals pending = record {
  symbolic = g;
  game = choice g tests goals pending;
  ids = exact_ids g;
}

-- ---- what holds of it
-- pairs of a valid state and of arguments
pub record IsPairs (g : GameData) (id : NodeId) : Type 0 where
  pub known : Knows g.diagrams.table id
  pub reads : ReadsState (length g.order + room) (means g.diagrams.table id)
  pub valid : (v : Assignment) → means g.diagrams.table id v ≡ true → valid_set g v ≡ true

-- values of levels of the same state, by so many levels, at which the pairs of some shape hold
pub record HasPair (count : ℕ) (t : Table) (pairs : List NodeId) (v : Assignment) : Type 0 where
  pub shape : ℕ
  pub values : Assignment
  pub below : shape < length pairs
  pub same : AreOneState count values v
  pub good : means t (id_in pairs shape) values ≡ true

-- arguments with which a move of some shape is good at a state
abbrev pub PairAt : GameData → Option GoalMoves → Assignment → Type 0
PairAt g o v = HasPair (length g.order) g.diagrams.table (pairs_of o) v

-- a goal's moves are sets over the game, of so many shapes that 32 bits number them, and at each state of the region
-- some move is good
pub record AreGoalMoves (g : GameData) (o : Option GoalMoves) : Type 0 where
  pub few : length (pairs_of o) ≤ 4294967295
  pub pairs : (shape : ℕ) → IsPairs g (id_in (pairs_of o) shape)
  pub candidates : (n : ℕ) → IsStateSet g (id_in (candidates_of o) n)
  pub care : IsStateSet g (care_in o)
  pub some : (v : Assignment) → means g.diagrams.table (care_in o) v ≡ true → ∥ PairAt g o v ∥₁

-- a game of some design, tests that are sets of it and tell its states apart, and moves of each goal
pub record IsChoice (g : GameData) (tests : List NodeId) (goals : List GoalMoves) : Type 0 where
  pub design : HasDesign g
  pub sets : (k : ℕ) → IsStateSet g (id_in tests k)
  pub moves : (j : ℕ) → AreGoalMoves g (slice_get goals j)
  pub told : (s t : StateData) → IsAmong s (exact_game g).states → IsAmong t (exact_game g).states →
      ((k : ℕ) → k < length tests →
      set_of g (id_in tests k) s ≡ set_of g (id_in tests k) t) → s ≡ t
