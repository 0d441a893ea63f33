use Rattle.std.proofs.Common.{◌≡◌, ◌<◌, length, sym, subst}
use Rattle.tm_dd.specs.declared.node.NodeId.{NodeId}
use Rattle.tm_game.specs.Game.{GameData, IsOf, IsStates}
use Rattle.tm_game.proofs.StateSets.{fairs_count, fair_told}
use Rattle.tm_game.proofs.game.Game.fair.Goals as goal
use Rattle.tm_sem.specs.Fairness.{IsFair, conditions}
use Rattle.tm_syntax.specs.Design.{DesignTree}

pub returns-clause-states : goal.returns-clause-states
returns-clause-states c =
    let below : c.args.fair < length c.self.inside.kept.fairs.items =
    subst (λ (g : GameData). c.args.fair < length g.fairs) (sym c.self.view_is) c.requires in
    subst (λ (g : GameData). (d : DesignTree) → IsOf d g → IsStates d g.order g.diagrams.table
    (λ s. IsFair d s c.args.fair) c.index.result.now) c.self.view_is
    (λ d of.
    subst (λ (id : NodeId). IsStates d c.self.inside.order.items c.self.inside.dd.table
    (λ s. IsFair d s c.args.fair) id) (sym c.index.ensures)
    (fair_told c.self.inside c.self.invariant d of c.args.fair c.index.result.now below))

pub returns-clause-count : goal.returns-clause-count
returns-clause-count c =
    subst (λ (g : GameData). (d : DesignTree) → IsOf d g → length g.fairs ≡ length (conditions d)) c.self.view_is
    (λ d of. fairs_count c.self.inside c.self.invariant d of)
