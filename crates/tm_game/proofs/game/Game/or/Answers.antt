use Rattle.std.proofs.Common.{sym, subst}
use Rattle.tm_dd.specs.Table.{Knows}
use Rattle.tm_ddops.specs.Connective.{larger, smaller}
use Rattle.tm_ddops.specs.Remembering.{RemembersPair}
use Rattle.tm_ddops.specs.declared.operation.Operation.TheVariants as operation
use Rattle.tm_game.specs.Game.{GameData}
use Rattle.tm_game.proofs.Extending.{extended_only, grows_from}
use Rattle.tm_game.proofs.game.Game.or.Goals as goal

pub or-requires-clause-f : goal.or-requires-clause-f
or-requires-clause-f c =
    subst (λ (g : GameData). Knows g.diagrams.table c.args.f) (sym c.self.view_is) c.requires.f

pub or-requires-clause-g : goal.or-requires-clause-g
or-requires-clause-g c =
    subst (λ (g : GameData). Knows g.diagrams.table c.args.g) (sym c.self.view_is) c.requires.g

pub invariant_of-self : goal.invariant_of-self
invariant_of-self c =
    extended_only c.self.inside c.or.new.self c.self.invariant c.or.ensures.grows.extends

pub returns-clause-grows : goal.returns-clause-grows
returns-clause-grows c =
    grows_from c.self.inside _ c.self.view_is c.or.new.self c.self.inside.recent c.or.ensures.grows.extends

pub returns-clause-remembers : goal.returns-clause-remembers
returns-clause-remembers c =
    subst (λ (d : GameData). RemembersPair (operation.Or (smaller c.args.f c.args.g) (larger c.args.f c.args.g))
    c.args.f c.args.g d.diagrams c.or.new.self c.or.result) c.self.view_is c.or.ensures.remembers
