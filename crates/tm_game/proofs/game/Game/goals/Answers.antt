use Rattle.std.proofs.Common.{◌≡◌, length, subst}
use Rattle.tm_game.specs.Game.{AreGoals, GameData, IsOf}
use Rattle.tm_game.proofs.StateSets.{goals_count, goal_told}
use Rattle.tm_game.proofs.game.Game.goals.Goals as goal
use Rattle.tm_syntax.specs.Design.{DesignTree}

pub returns-clause-states : goal.returns-clause-states
returns-clause-states c =
    subst (λ (g : GameData). (d : DesignTree) → IsOf d g → AreGoals d g) c.self.view_is
    (λ d of j e below. goal_told c.self.inside c.self.invariant d of j e below)

pub returns-clause-count : goal.returns-clause-count
returns-clause-count c =
    subst (λ (g : GameData). (d : DesignTree) → IsOf d g → length g.goals ≡ length d.goals) c.self.view_is
    (λ d of. goals_count c.self.inside c.self.invariant d of)
