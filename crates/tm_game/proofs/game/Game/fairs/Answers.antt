use Rattle.std.proofs.Common.{◌≡◌, length, subst}
use Rattle.tm_game.specs.Game.{AreFairs, GameData, IsOf}
use Rattle.tm_game.proofs.StateSets.{fairs_count, fair_told}
use Rattle.tm_game.proofs.game.Game.fairs.Goals as goal
use Rattle.tm_sem.specs.Fairness.{conditions}
use Rattle.tm_syntax.specs.Design.{DesignTree}

pub returns-clause-states : goal.returns-clause-states
returns-clause-states c =
    subst (λ (g : GameData). (d : DesignTree) → IsOf d g → AreFairs d g) c.self.view_is
    (λ d of j e below. fair_told c.self.inside c.self.invariant d of j e below)

pub returns-clause-count : goal.returns-clause-count
returns-clause-count c =
    subst (λ (g : GameData). (d : DesignTree) → IsOf d g → length g.fairs ≡ length (conditions d)) c.self.view_is
    (λ d of. fairs_count c.self.inside c.self.invariant d of)
