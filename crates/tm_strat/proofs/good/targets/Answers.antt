use Rattle.std.proofs.Common.{◌≡◌, ℕ, suc, ◌+◌, length, sym, subst, arith}
use Rattle.tm_game.proofs.MadeSets.{false_set}
use Rattle.tm_strat.proofs.Carrying.{one_set, sets_more, sets_stay, set_stays}
use Rattle.tm_strat.proofs.Zoning.{either_set, first_target, none_before, targets_step, within_step}
use Rattle.tm_strat.specs.Zones.{AreTargets}
use Rattle.tm_strat.proofs.good.targets.Goals as goal

pub loop-index-init : goal.loop-index-init
loop-index-init c = record {
  grows = λ base b. b;
  sets = one_set c.args.game.now c.new-targets.result.items c.push.new.self.items c.args.region
      c.new-targets.ensures.items c.requires.region c.in_ok-push.ensures.items;
  set = false_set c.args.game.now;
  are = λ j z tells. (
    first_target c.args.game.now.diagrams.table z c.push.new.self.items c.new-targets.result.items c.args.region
        c.new-targets.ensures.items c.in_ok-push.ensures.items tells.region_is,
    none_before c.args.game.now.diagrams.table z,
  );
}

pub loop-index-preserved : goal.loop-index-preserved
loop-index-preserved c =
    let i = c.loop-index.index in
    let next : i + 1 ≡ suc i = omega arith in
    let begun = c.loop-index.invariant.grows in
    let r = c.rank_in-rank.result in
    let there = c.rank_in-rank.ensures in
    let union = either_set c.loop-index.game c.either.new.game c.either.ensures.grows c.loop-index.within r.set
    c.in_ok-within.within c.loop-index.invariant.set
    (set_stays c.args.game.now c.loop-index.game begun r.set (c.requires.ranks.each i r there))
    c.in_ok-within.ensures.answer in
    record {
      grows = λ base b. c.either.ensures.grows base (begun base b);
      sets = sets_more c.either.new.game c.loop-index.targets.items c.push-in-loop-index.new.self.items
          c.in_ok-within.within
          (sets_stay c.loop-index.game c.either.new.game c.either.ensures.grows c.loop-index.targets.items
          c.loop-index.invariant.sets) union c.in_ok-push-2.ensures.items;
      set = union;
      are = λ j z tells.
          let so_far = c.loop-index.invariant.are j z tells in
          let here = within_step c.args.game.now c.loop-index.game c.either.new.game begun c.either.ensures.grows z
          c.args.region c.args.ranks.now j tells i (i + 1) next r there c.loop-index.within c.in_ok-within.within
          so_far.1 c.in_ok-within.ensures.answer in (
            targets_step c.args.game.now c.loop-index.game c.either.new.game begun c.either.ensures.grows z
                c.args.region c.args.ranks.now j tells i (i + 1) next r there c.loop-index.targets.items
                c.push-in-loop-index.new.self.items c.in_ok-within.within
                (subst (λ (n : ℕ). AreTargets c.loop-index.game.diagrams.table z n c.loop-index.targets.items)
                (sym next) so_far.0) here c.in_ok-push-2.ensures.items,
            here,
          );
    }

pub returns-clause-are : goal.returns-clause-are
returns-clause-are c =
    λ j z tells.
    let ends = c.loop-index.auto.index-end in
    let last = c.loop-index-test.false in
    let all : c.loop-index.index ≡ length c.args.ranks.now = omega (arith, ends, last) in
    subst (λ (n : ℕ). AreTargets c.loop-index.game.diagrams.table z (suc n) c.loop-index.targets.items) all
    (c.loop-index.invariant.are j z tells).0
