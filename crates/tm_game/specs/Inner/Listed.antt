-- The ids of a game, in order.
use Rattle.std.specs.Prelude.{ℕ, List, ◌∷◌, ◌++◌, map}
use Rattle.std.specs.List.{flat_map}
use Rattle.tm_dd.specs.declared.node.NodeId.{NodeId}
use Rattle.tm_game_bits.specs.declared.game.GameDiagrams.{GameDiagrams}
use Rattle.tm_game_bits.specs.declared.step.StepDiagrams.{StepDiagrams}
use Rattle.tm_game.specs.declared.opening.Kept.{Kept}

-- what levels become
abbrev pub change_ids : List (ℕ × NodeId) → List NodeId
change_ids changes = map (λ p. p.1) changes

-- the ids of a step
abbrev pub step_ids : StepDiagrams → List NodeId
step_ids step = step.legal ∷ (step.error ∷ change_ids step.next.items)

-- the ids of some steps
abbrev pub steps_ids : List StepDiagrams → List NodeId
steps_ids steps = flat_map step_ids steps

-- the ids of a game
abbrev pub game_ids : GameDiagrams → List NodeId
game_ids g =
    g.valid
    ∷ (g.turn ∷ (change_ids g.stutter.items ++ (steps_ids g.environment.items ++ steps_ids g.driver.items)))

-- the ids that a game keeps beside
abbrev pub kept_ids : Kept → List NodeId
kept_ids kept = kept.initial ∷ (kept.turn ∷ (kept.goals.items ++ kept.fairs.items))
