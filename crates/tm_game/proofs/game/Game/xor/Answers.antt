use Rattle.std.proofs.Common.{sym, subst}
use Rattle.tm_dd.specs.Table.{Knows}
use Rattle.tm_ddops.specs.Connective.{larger, smaller}
use Rattle.tm_ddops.specs.Remembering.{RemembersPair}
use Rattle.tm_ddops.specs.declared.operation.Operation.TheVariants as operation
use Rattle.tm_game.specs.Game.{GameData}
use Rattle.tm_game.proofs.Extending.{extended_only, grows_from}
use Rattle.tm_game.proofs.game.Game.xor.Goals as goal

pub xor-requires-clause-f : goal.xor-requires-clause-f
xor-requires-clause-f c =
    subst (λ (g : GameData). Knows g.diagrams.table c.args.f) (sym c.self.view_is) c.requires.f

pub xor-requires-clause-g : goal.xor-requires-clause-g
xor-requires-clause-g c =
    subst (λ (g : GameData). Knows g.diagrams.table c.args.g) (sym c.self.view_is) c.requires.g

pub invariant_of-self : goal.invariant_of-self
invariant_of-self c =
    extended_only c.self.inside c.xor.new.self c.self.invariant c.xor.ensures.grows.extends

pub returns-clause-grows : goal.returns-clause-grows
returns-clause-grows c =
    grows_from c.self.inside _ c.self.view_is c.xor.new.self c.self.inside.recent c.xor.ensures.grows.extends

pub returns-clause-remembers : goal.returns-clause-remembers
returns-clause-remembers c =
    subst (λ (d : GameData). RemembersPair (operation.Xor (smaller c.args.f c.args.g) (larger c.args.f c.args.g))
    c.args.f c.args.g d.diagrams c.xor.new.self c.xor.result) c.self.view_is c.xor.ensures.remembers
