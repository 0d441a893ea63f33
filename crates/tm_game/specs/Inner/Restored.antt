-- Games whose ids mean in one store what other ids meant in another one.
use Rattle.std.specs.Prelude.{◌≡◌, ℕ, ◌+◌, ◌<◌, ◌≤◌, List, All, length, map, slice_index_or}
use Rattle.tm_dd.specs.declared.node.NodeId.{NodeId}
use Rattle.tm_dd.specs.Table.{Table, means}
use Rattle.tm_ddops.specs.Copied.{MeanTheSame}
use Rattle.tm_ddops.specs.Manager.{IsFunction}
use Rattle.tm_game_bits.specs.declared.game.GameDiagrams.{GameDiagrams}
use Rattle.tm_game_bits.specs.declared.step.StepDiagrams.{StepDiagrams}
use Rattle.tm_game_bits.specs.Diagrams.{KnowsChanges, KnowsGame, KnowsStep, changes_of, game_of, step_of}
use Rattle.tm_game.specs.declared.opening.Kept.{Kept}

-- ids stand in a list, from a place on
pub record StandAt (all : List NodeId) (at : ℕ) (ids : List NodeId) : Type 0 where
  pub within : at + length ids ≤ length all
  pub each : (k : ℕ) (d : NodeId) → k < length ids → slice_index_or ids k d ≡ slice_index_or all (at + k) d

-- changes do the same
pub record SameChanges (s : Table) (old : List (ℕ × NodeId)) (t : Table) (new : List (ℕ × NodeId)) : Type 0 where
  pub known : KnowsChanges t new
  pub functions : changes_of t new ≡ changes_of s old

-- a step does the same
pub record SameStep (s : Table) (old : StepDiagrams) (t : Table) (new : StepDiagrams) : Type 0 where
  pub known : KnowsStep t new
  pub functions : step_of t new ≡ step_of s old

-- steps do the same
pub record SameSteps (s : Table) (old : List StepDiagrams) (t : Table) (new : List StepDiagrams) : Type 0 where
  pub known : All (KnowsStep t) new
  pub functions : map (step_of t) new ≡ map (step_of s) old

-- a game is the same
pub record SameGame (s : Table) (old : GameDiagrams) (t : Table) (new : GameDiagrams) : Type 0 where
  pub known : KnowsGame t new
  pub functions : game_of t new ≡ game_of s old

-- the ids that a game keeps mean the same
pub record SameKept (s : Table) (old : Kept) (t : Table) (new : Kept) : Type 0 where
  pub initial : IsFunction t new.initial (means s old.initial)
  pub turn : IsFunction t new.turn (means s old.turn)
  pub goals : MeanTheSame s old.goals.items t new.goals.items
  pub fairs : MeanTheSame s old.fairs.items t new.fairs.items
