use Rattle.std.proofs.Common.{◌+◌, ◌≤◌, length, subst, arith}
use Rattle.tm_dd.specs.Reduced.{RanksRise}
use Rattle.tm_flat.specs.Flat.{flat_terms}
use Rattle.tm_game.specs.Game.{GameData}
use Rattle.tm_game.specs.Start.{state_bits_in}
use Rattle.tm_game.proofs.Starting.{places_permuted}
use Rattle.tm_game.proofs.game.Game.order.Goals as goal
use Rattle.tm_game_bits.specs.Order.{IsOrder}
use Rattle.tm_game_steps.specs.Setting.{setting_of}

pub returns-clause-places : goal.returns-clause-places
returns-clause-places c =
    subst (λ (g : GameData). IsOrder (state_bits_in g.flat) g.order) c.self.view_is
    (places_permuted (setting_of c.self.inside.encoding) (flat_terms c.self.inside.flat) c.self.inside.order.items
    c.self.invariant.shape)

pub returns-clause-rises : goal.returns-clause-rises
returns-clause-rises c =
    subst (λ (g : GameData). RanksRise (length g.order) g.diagrams.table) c.self.view_is c.self.invariant.rises

pub returns-clause-levels : goal.returns-clause-levels
returns-clause-levels c =
    let enough : length c.self.inside.order.items + 128 ≤ c.self.inside.dd.table.levels =
    omega (arith, c.self.invariant.levels) in
    subst (λ (g : GameData). length g.order + 128 ≤ g.diagrams.table.levels) c.self.view_is enough

pub returns-clause-predicates : goal.returns-clause-predicates
returns-clause-predicates c =
    subst (λ (g : GameData). length g.order + 128 + length g.flat.pool ≤ g.diagrams.table.levels) c.self.view_is
    c.self.invariant.levels
