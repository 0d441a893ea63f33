-- A game of diagrams: the functions that its ids mean, and what its ids have to be.
use Rattle.std.specs.Prelude.{◌≡◌, ℕ, true, List, All, Contains, map}
use Rattle.tm_dd.specs.declared.node.NodeId.{NodeId}
use Rattle.tm_dd.specs.Table.{Table, Knows, means}
use Rattle.tm_game_bits.specs.declared.step.StepDiagrams.{StepDiagrams}
use Rattle.tm_game_bits.specs.declared.game.GameDiagrams.{GameDiagrams}
use Rattle.tm_game_bits.specs.Functions.{Assignment, Function, StepFunctions, GameFunctions}

-- levels with the functions that they become
abbrev pub changes_of : Table → List (ℕ × NodeId) → List (ℕ × Function)
changes_of s changes = map (λ p. (p.0, means s p.1)) changes

-- the functions of a step
abbrev pub step_of : Table → StepDiagrams → StepFunctions
step_of s step = record {
  legal = means s step.legal;
  error = means s step.error;
  next = changes_of s step.next.items;
  choices = step.choices.items;
  arguments = step.arguments.items;
}

-- the functions of a game
abbrev pub game_of : Table → GameDiagrams → GameFunctions
game_of s g = record {
  valid = means s g.valid;
  turn = means s g.turn;
  stutter = changes_of s g.stutter.items;
  environment = map (step_of s) g.environment.items;
  driver = map (step_of s) g.driver.items;
}

-- the ids that levels become are known
abbrev pub KnowsChanges : Table → List (ℕ × NodeId) → Type 0
KnowsChanges s changes = (id : NodeId) → Contains (map (λ p. p.1) changes) id → Knows s id

-- the ids of a step are known
pub record KnowsStep (s : Table) (step : StepDiagrams) : Type 0 where
  pub legal : Knows s step.legal
  pub error : Knows s step.error
  pub next : KnowsChanges s step.next.items

-- the ids of a game are known
pub record KnowsGame (s : Table) (g : GameDiagrams) : Type 0 where
  pub valid : Knows s g.valid
  pub turn : Knows s g.turn
  pub stutter : KnowsChanges s g.stutter.items
  pub environment : All (KnowsStep s) g.environment.items
  pub driver : All (KnowsStep s) g.driver.items

-- an id is known, and true exactly at such assignments
pub record IsSetOf (s : Table) (IsSuch : Assignment → Type 0) (id : NodeId) : Type 0 where
  pub known : Knows s id
  pub only : (v : Assignment) → means s id v ≡ true → IsSuch v
  pub all : (v : Assignment) → IsSuch v → means s id v ≡ true
