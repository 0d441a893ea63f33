use Rattle.std.proofs.Common.{◌≡◌, ℕ, List, length, take, ap, ◌∙◌, subst, arith}
use Rattle.tm_dd.specs.Table.{Table}
use Rattle.tm_game.specs.Game.{GameData}
use Rattle.tm_game.specs.Inner.Valued.{level_values}
use Rattle.tm_game.specs.Inner.Values.{AreValuesAt}
use Rattle.tm_game.proofs.Valuing.{values_told}
use Rattle.tm_game.proofs.game.Game.values.Goals as goal
use Rattle.tm_sem.specs.StateBits.{bits_of_numbers, state_numbers}

pub values_at-requires : goal.values_at-requires
values_at-requires c =
    let levels : c.levels-count.result ≡ c.self.inside.dd.table.levels =
    c.levels-count.ensures.value ∙ ap (λ (t : Table). t.levels) c.store.ensures.value in
    omega (arith, c.self.invariant.levels, levels, ap length c.deref-2.ensures.value)

pub returns : goal.returns
returns c =
    let levels : c.levels-count.result ≡ c.self.inside.dd.table.levels =
    c.levels-count.ensures.value ∙ ap (λ (t : Table). t.levels) c.store.ensures.value in
    let bits = c.deref-3.ensures.value ∙ c.in_ok-bits.ensures
    ∙ ap
    (λ (ws : List ℕ). bits_of_numbers (take c.self.inside.encoding.numbers ws) (state_numbers c.args.state.now))
    c.deref.ensures.value in
    subst (λ (g : GameData). AreValuesAt g c.args.state.now c.args.arguments.now c.in_ok-values.values.items)
    c.self.view_is
    (values_told c.self.inside c.self.invariant c.args.state.now c.args.arguments.now c.in_ok-values.values.items
    (c.in_ok-values.ensures
    ∙ (λ i. level_values (c.deref-2.ensures.value i) (bits i) c.args.arguments.now (levels i))))
