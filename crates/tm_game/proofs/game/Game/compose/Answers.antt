use Rattle.std.proofs.Common.{Contains, map, sym, subst}
use Rattle.tm_dd.specs.declared.node.NodeId.{NodeId}
use Rattle.tm_dd.specs.Table.{Knows}
use Rattle.tm_ddops.specs.Manager.{Grows}
use Rattle.tm_game.specs.Game.{GameData}
use Rattle.tm_game.proofs.Extending.{extended_only, grows_from}
use Rattle.tm_game.proofs.game.Game.compose.Goals as goal

pub compose-requires-clause-known : goal.compose-requires-clause-known
compose-requires-clause-known c =
    subst (λ (g : GameData). Knows g.diagrams.table c.args.f) (sym c.self.view_is) c.requires.known

pub compose-requires-clause-parts : goal.compose-requires-clause-parts
compose-requires-clause-parts c =
    subst (λ (g : GameData). (id : NodeId) → Contains (map (λ p. p.1) c.args.parts.now) id →
    Knows g.diagrams.table id) (sym c.self.view_is) c.requires.parts

pub invariant_of-self : goal.invariant_of-self
invariant_of-self c =
    extended_only c.self.inside c.compose.new.self c.self.invariant c.compose.ensures.grows.extends

pub returns-clause-grows : goal.returns-clause-grows
returns-clause-grows c =
    grows_from c.self.inside _ c.self.view_is c.compose.new.self c.self.inside.recent c.compose.ensures.grows.extends

pub returns-clause-diagrams : goal.returns-clause-diagrams
returns-clause-diagrams c =
    subst (λ (g : GameData). Grows g.diagrams c.compose.new.self) c.self.view_is c.compose.ensures.grows
