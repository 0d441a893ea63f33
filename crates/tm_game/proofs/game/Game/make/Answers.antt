use Rattle.std.proofs.Common.{◌<◌, sym, subst}
use Rattle.tm_dd.specs.Reduced.{IsDeeper}
use Rattle.tm_dd.specs.Table.{Knows}
use Rattle.tm_game.specs.Game.{GameData}
use Rattle.tm_game.specs.Making.{MakesNode}
use Rattle.tm_game.proofs.Extending.{extended_only, grows_from}
use Rattle.tm_game.proofs.game.Game.make.Goals as goal

pub make-requires-clause-lo_known : goal.make-requires-clause-lo_known
make-requires-clause-lo_known c =
    subst (λ (g : GameData). Knows g.diagrams.table c.args.lo) (sym c.self.view_is) c.requires.lo_known

pub make-requires-clause-hi_known : goal.make-requires-clause-hi_known
make-requires-clause-hi_known c =
    subst (λ (g : GameData). Knows g.diagrams.table c.args.hi) (sym c.self.view_is) c.requires.hi_known

pub make-requires-clause-lo_deeper : goal.make-requires-clause-lo_deeper
make-requires-clause-lo_deeper c =
    subst (λ (g : GameData). IsDeeper g.diagrams.table c.args.level c.args.lo) (sym c.self.view_is)
    c.requires.lo_deeper

pub make-requires-clause-hi_deeper : goal.make-requires-clause-hi_deeper
make-requires-clause-hi_deeper c =
    subst (λ (g : GameData). IsDeeper g.diagrams.table c.args.level c.args.hi) (sym c.self.view_is)
    c.requires.hi_deeper

pub make-requires-clause-level : goal.make-requires-clause-level
make-requires-clause-level c =
    subst (λ (g : GameData). c.args.level < g.diagrams.table.levels) (sym c.self.view_is) c.requires.level

pub invariant_of-self : goal.invariant_of-self
invariant_of-self c =
    extended_only c.self.inside c.make.new.self c.self.invariant c.make.ensures.grows.extends

pub returns-clause-grows : goal.returns-clause-grows
returns-clause-grows c =
    grows_from c.self.inside _ c.self.view_is c.make.new.self c.self.inside.recent c.make.ensures.grows.extends

pub returns-clause-makes : goal.returns-clause-makes
returns-clause-makes c =
    subst (λ (d : GameData). MakesNode (record { level = c.args.level; lo = c.args.lo; hi = c.args.hi }) d.diagrams
    c.make.new.self c.make.result) c.self.view_is (record {
      equal = c.make.ensures.equal;
      found = c.make.ensures.found;
      unchanged = c.make.ensures.unchanged;
      added = c.make.ensures.added;
      adds = c.make.ensures.adds;
      results = c.make.ensures.results;
      refused = c.make.ensures.refused;
    })
