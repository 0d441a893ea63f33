use Rattle.std.proofs.Common.{sym, subst}
use Rattle.tm_dd.specs.Table.{Knows}
use Rattle.tm_ddops.specs.Remembering.{RemembersResult}
use Rattle.tm_ddops.specs.declared.operation.Operation.TheVariants as operation
use Rattle.tm_game.specs.Game.{GameData}
use Rattle.tm_game.proofs.Extending.{extended_only, grows_from}
use Rattle.tm_game.proofs.game.Game.ite.Goals as goal

pub ite-requires-clause-f : goal.ite-requires-clause-f
ite-requires-clause-f c =
    subst (λ (g : GameData). Knows g.diagrams.table c.args.f) (sym c.self.view_is) c.requires.f

pub ite-requires-clause-g : goal.ite-requires-clause-g
ite-requires-clause-g c =
    subst (λ (g : GameData). Knows g.diagrams.table c.args.g) (sym c.self.view_is) c.requires.g

pub ite-requires-clause-h : goal.ite-requires-clause-h
ite-requires-clause-h c =
    subst (λ (g : GameData). Knows g.diagrams.table c.args.h) (sym c.self.view_is) c.requires.h

pub invariant_of-self : goal.invariant_of-self
invariant_of-self c =
    extended_only c.self.inside c.ite.new.self c.self.invariant c.ite.ensures.grows.extends

pub returns-clause-grows : goal.returns-clause-grows
returns-clause-grows c =
    grows_from c.self.inside _ c.self.view_is c.ite.new.self c.self.inside.recent c.ite.ensures.grows.extends

pub returns-clause-remembers : goal.returns-clause-remembers
returns-clause-remembers c =
    subst (λ (d : GameData). RemembersResult (operation.Ite c.args.f c.args.g c.args.h) d.diagrams c.ite.new.self
    c.ite.result) c.self.view_is c.ite.ensures.remembers
