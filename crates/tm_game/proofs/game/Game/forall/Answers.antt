use Rattle.std.proofs.Common.{sym, subst}
use Rattle.tm_dd.specs.Table.{Knows}
use Rattle.tm_ddops.specs.Manager.{Grows}
use Rattle.tm_game.specs.Game.{GameData}
use Rattle.tm_game.proofs.Extending.{extended_only, grows_from}
use Rattle.tm_game.proofs.game.Game.forall.Goals as goal

pub forall-requires : goal.forall-requires
forall-requires c = record {
  known = subst (λ (g : GameData). Knows g.diagrams.table c.args.f) (sym c.self.view_is) c.requires.known;
}

pub invariant_of-self : goal.invariant_of-self
invariant_of-self c =
    extended_only c.self.inside c.forall.new.self c.self.invariant c.forall.ensures.grows.extends

pub returns-clause-grows : goal.returns-clause-grows
returns-clause-grows c =
    grows_from c.self.inside _ c.self.view_is c.forall.new.self c.self.inside.recent c.forall.ensures.grows.extends

pub returns-clause-diagrams : goal.returns-clause-diagrams
returns-clause-diagrams c =
    subst (λ (g : GameData). Grows g.diagrams c.forall.new.self) c.self.view_is c.forall.ensures.grows
