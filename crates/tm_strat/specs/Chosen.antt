-- Drafted blocks that lead to good moves.
use Rattle.std.specs.Prelude.{ℕ, ◌+◌, ◌<◌, ◌≤◌, List, length, slice_get}
use Rattle.tm_dd.specs.declared.node.NodeId.{NodeId}
use Rattle.tm_game.specs.Game.{GameData}
use Rattle.tm_solve_exact.specs.Exact.{set_of}
use Rattle.tm_strat.specs.Choice.{care_in, choice}
use Rattle.tm_strat.specs.declared.choosing.GoalMoves.{GoalMoves}
use Rattle.tm_strat_drafts.specs.Blocks.{AreGood}
use Rattle.tm_strat_drafts.specs.declared.drafts.DraftBlock.{DraftBlock}

-- 32 bits number all tests of states and goals
pub record AreCounted (tests : List NodeId) (goals : List GoalMoves) : Type 0 where
  pub few : length tests + length goals ≤ 4294967295

-- where 32 bits number all tests, the blocks lead to a good move at each state of a goal's region while that goal is
-- pending
abbrev pub AreChosen : GameData → List NodeId → List GoalMoves → List DraftBlock → Type 0
AreChosen g tests goals bs =
    AreCounted tests goals → (j : ℕ) → j < length goals →
    AreGood (choice g tests goals j) bs 0 (set_of g (care_in (slice_get goals j)))
