use Rattle.std.proofs.Common.{◌≡◌, ℕ, suc, ◌+◌, length, subst, arith}
use Rattle.tm_strat.proofs.Zoning.{zones_step}
use Rattle.tm_strat.specs.Zones.{AreZones}
use Rattle.tm_strat.proofs.good.push_zones.Goals as goal

pub loop-index-init : goal.loop-index-init
loop-index-init c = record { grows = λ base b. b; are = λ z zoned waits. zoned }

pub loop-index-preserved : goal.loop-index-preserved
loop-index-preserved c =
    let i = c.loop-index.index in
    let next : i + 1 ≡ suc i = omega arith in
    let begun = c.loop-index.invariant.grows in
    let w = c.states_in-new.result in
    let there = c.states_in-new.ensures in
    record {
      grows = λ base b. c.either.ensures.grows base (begun base b);
      are = λ z zoned waits.
          zones_step c.args.game.now c.loop-index.game c.either.new.game begun c.either.ensures.grows z i (i + 1) next
          c.args.waits.now w there waits c.falling_to-falling.result c.in_ok-states.states
          (c.falling_to-falling.ensures c.args.game.now.diagrams.table z waits) c.loop-index.zones.items
          c.push.new.self.items (c.loop-index.invariant.are z zoned waits) c.in_ok-states.ensures.answer
          c.in_ok-push.ensures.items;
    }

pub returns-clause-are : goal.returns-clause-are
returns-clause-are c =
    λ z zoned waits.
    let ends = c.loop-index.auto.index-end in
    let last = c.loop-index-test.false in
    let all : c.loop-index.index ≡ length c.args.waits.now = omega (arith, ends, last) in
    subst (λ (n : ℕ). AreZones c.loop-index.game.diagrams.table z (suc n) c.loop-index.zones.items) all
    (c.loop-index.invariant.are z zoned waits)
