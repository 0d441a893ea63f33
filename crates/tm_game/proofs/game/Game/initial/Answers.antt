use Rattle.std.proofs.Common.{subst}
use Rattle.tm_game.specs.Game.{GameData, IsOf, IsStates}
use Rattle.tm_game.proofs.StateSets.{initial_told}
use Rattle.tm_game.proofs.game.Game.initial.Goals as goal
use Rattle.tm_sem.specs.Step.{IsInitial}
use Rattle.tm_syntax.specs.Design.{DesignTree}

pub returns-clause-states : goal.returns-clause-states
returns-clause-states c =
    subst (λ (g : GameData). (d : DesignTree) → IsOf d g → IsStates d g.order g.diagrams.table
    (IsInitial d) c.self.inside.kept.initial) c.self.view_is
    (λ d of. initial_told c.self.inside c.self.invariant d of)
