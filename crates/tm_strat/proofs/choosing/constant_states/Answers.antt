use Rattle.std.proofs.Common.{◌≡◌, ℕ, ◌+◌, ◌-◌, ◌<◌, List, length, refl, ap, ◌∙◌, arith}
use Rattle.tm_dd.specs.Table.{Table}
use Rattle.tm_ddops.specs.Manager.{Diagrams}
use Rattle.tm_strat.proofs.Parts.{parts_more, placed_states}
use Rattle.tm_strat.proofs.choosing.constant_states.Goals as goal

pub loop-index-preserved : goal.loop-index-preserved
loop-index-preserved c =
    let below = c.loop-index-test.true in
    parts_more c.narrow-first.result c.args.bits c.loop-index.index _ (63 - c.loop-index.index) c.constant_bit.result
    c.loop-index.parts.items c.push.new.self.items c.loop-index-test.true refl
    (ap (λ (n : ℕ). c.narrow-first.result + n) c.from.ensures)
    (c.constant_bit.ensures (omega (arith, below))) c.loop-index.invariant c.in_ok-push.ensures.items

pub returns-clause-value : goal.returns-clause-value
returns-clause-value c =
    let ends = c.loop-index.auto.index-end in
    let last = c.loop-index-test.false in
    let levels : c.levels-levels.result ≡ c.args.game.now.diagrams.table.levels =
    c.levels-levels.ensures.value
    ∙ ap (λ (t : Table). t.levels) (c.store.ensures.value ∙ ap (λ (m : Diagrams). m.table) c.manager.ensures) in
    let wide : c.levels-levels.result < 4294967296 = c.levels-levels.type_inv in
    let room = c.order.ensures.levels in
    let long : length c.order.result.now ≡ length c.args.game.now.order =
    ap (λ (l : List ℕ). length l) c.order.ensures.value in
    placed_states c.args.game.now c.placed.new.game c.requires.design c.placed.ensures.grows c.args.pairs
    c.requires.pairs c.args.bits c.in_ok-states.states c.narrow-first.result c.loop-index.index c.deref.result.now
    c.loop-index.parts.items c.deref.ensures.value c.loop-index.invariant (omega (arith, ends, last))
    (c.narrow-first.ensures (omega (arith, levels, wide, room, long)) ∙ long)
    c.in_ok-states.ensures.answer
