use Rattle.std.proofs.Common.{◌≡◌, true, subst}
use Rattle.tm_game.specs.Game.{GameData, IsOf, IsStates}
use Rattle.tm_game.proofs.StateSets.{turn_told}
use Rattle.tm_game.proofs.game.Game.turn.Goals as goal
use Rattle.tm_sem.specs.Step.{is_driver_turn}
use Rattle.tm_syntax.specs.Design.{DesignTree}

pub returns-clause-states : goal.returns-clause-states
returns-clause-states c =
    subst (λ (g : GameData). (d : DesignTree) → IsOf d g → IsStates d g.order g.diagrams.table
    (λ s. is_driver_turn d s ≡ true) c.self.inside.kept.turn) c.self.view_is
    (λ d of. turn_told c.self.inside c.self.invariant d of)
