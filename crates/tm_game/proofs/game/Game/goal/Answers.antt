use Rattle.std.proofs.Common.{◌≡◌, ◌<◌, true, length, sym, subst}
use Rattle.tm_dd.specs.declared.node.NodeId.{NodeId}
use Rattle.tm_game.specs.Game.{GameData, IsOf, IsStates}
use Rattle.tm_game.proofs.StateSets.{goals_count, goal_told}
use Rattle.tm_game.proofs.game.Game.goal.Goals as goal
use Rattle.tm_sem.specs.Play.{goal_holds}
use Rattle.tm_syntax.specs.Design.{DesignTree}

pub returns-clause-states : goal.returns-clause-states
returns-clause-states c =
    let below : c.args.goal < length c.self.inside.kept.goals.items =
    subst (λ (g : GameData). c.args.goal < length g.goals) (sym c.self.view_is) c.requires in
    subst (λ (g : GameData). (d : DesignTree) → IsOf d g → IsStates d g.order g.diagrams.table
    (λ s. goal_holds d s c.args.goal ≡ true) c.index.result.now) c.self.view_is
    (λ d of.
    subst (λ (id : NodeId). IsStates d c.self.inside.order.items c.self.inside.dd.table
    (λ s. goal_holds d s c.args.goal ≡ true) id) (sym c.index.ensures)
    (goal_told c.self.inside c.self.invariant d of c.args.goal c.index.result.now below))

pub returns-clause-count : goal.returns-clause-count
returns-clause-count c =
    subst (λ (g : GameData). (d : DesignTree) → IsOf d g → length g.goals ≡ length d.goals) c.self.view_is
    (λ d of. goals_count c.self.inside c.self.invariant d of)
