use Rattle.std.proofs.Common.{◌≡◌, ℕ, suc, ◌+◌, length, subst, arith}
use Rattle.tm_strat.proofs.Zoning.{no_waits, none_before, waits_kept, waits_step, within_step, function_kept}
use Rattle.tm_strat.specs.Zones.{AreWaits, before}
use Rattle.tm_strat.proofs.good.waits.Goals as goal

pub loop-index-init : goal.loop-index-init
loop-index-init c = record {
  grows = λ base b. b;
  are = λ region j z tells fails. (
    no_waits c.args.game.now.diagrams.table z c.new-waits.result.items c.new-waits.ensures.items,
    none_before c.args.game.now.diagrams.table z,
  );
}

pub loop-index-preserved : goal.loop-index-preserved
loop-index-preserved c =
    let i = c.loop-index.index in
    let next : i + 1 ≡ suc i = omega arith in
    let begun = c.loop-index.invariant.grows in
    let r = c.rank_in-rank.result in
    let there = c.rank_in-rank.ensures in
    record {
      grows = λ base b. c.either.ensures.grows base (c.new_states.ensures.grows base (begun base b));
      are = λ region j z tells fails.
          let so_far = c.loop-index.invariant.are region j z tells fails in (
            waits_kept c.new_states.new.game c.either.new.game c.either.ensures.grows z (i + 1)
                c.push.new.self.items
                (waits_step c.args.game.now c.loop-index.game c.new_states.new.game begun c.new_states.ensures.grows z
                region c.args.ranks.now j tells i (i + 1) next r there c.args.failing fails c.loop-index.before so_far.1
                c.loop-index.waits.items c.push.new.self.items c.in_ok-states.states so_far.0 c.in_ok-states.ensures.are
                c.in_ok-push.ensures.items),
            within_step c.args.game.now c.new_states.new.game c.either.new.game
                (λ base b. c.new_states.ensures.grows base (begun base b)) c.either.ensures.grows z region
                c.args.ranks.now j tells i (i + 1) next r there c.loop-index.before c.in_ok-before.before
                (function_kept c.loop-index.game c.new_states.new.game c.new_states.ensures.grows c.loop-index.before
                (before z i) so_far.1) c.in_ok-before.ensures.answer,
          );
    }

pub returns-clause-are : goal.returns-clause-are
returns-clause-are c =
    λ region j z tells fails.
    let ends = c.loop-index.auto.index-end in
    let last = c.loop-index-test.false in
    let all : c.loop-index.index ≡ length c.args.ranks.now = omega (arith, ends, last) in
    subst (λ (n : ℕ). AreWaits c.loop-index.game.diagrams.table z n c.loop-index.waits.items) all
    (c.loop-index.invariant.are region j z tells fails).0
