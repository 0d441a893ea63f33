use Rattle.std.proofs.Common.{ℕ, List, length, sym, ap, ◌∙◌, subst, arith}
use Rattle.std.proofs.lemmas.List.{length_push}
use Rattle.std.specs.List.{range_with_len}
use Rattle.tm_flat.specs.Inputs.{room}
use Rattle.tm_solve.specs.declared.iterates.RankSet.{RankSet}
use Rattle.tm_solve_exact.proofs.Growing.{kept_exact}
use Rattle.tm_strat.proofs.Carrying.{all_stay, grown, set_stays}
use Rattle.tm_strat.proofs.Made.{all_good_kept, good_more, good_none}
use Rattle.tm_strat.specs.Goods.{IsGoodFor}
use Rattle.tm_strat.specs.declared.good.GoodMoves.{GoodMoves}
use Rattle.tm_strat.proofs.good.good_moves.Goals as goal

pub loop-goal-init : goal.loop-goal-init
loop-goal-init c = record {
  grows = λ base b. b;
  count = ap (λ (l : List GoodMoves). length l) c.new-all.ensures.items;
  good = λ d is.
      good_none d c.args.game.now c.args.iterates.now c.args.shapes.now c.new-all.result.items
      c.new-all.ensures.items;
}

pub goal_moves-requires-clause-of : goal.goal_moves-requires-clause-of
goal_moves-requires-clause-of c = (
  c.requires.of.0,
  kept_exact c.requires.of.0 c.args.game.now c.requires.of.1 c.loop-goal.game
      (grown c.args.game.now c.loop-goal.game c.loop-goal.invariant.grows),
)

pub goal_moves-requires-clause-region : goal.goal_moves-requires-clause-region
goal_moves-requires-clause-region c =
    set_stays c.args.game.now c.loop-goal.game c.loop-goal.invariant.grows c.args.iterates.now.region
    c.requires.sets.region

pub goal_moves-requires-clause-ranks : goal.goal_moves-requires-clause-ranks
goal_moves-requires-clause-ranks c =
    c.ranks_at-ranks.ensures.sets c.loop-goal.game
    (all_stay c.args.game.now c.loop-goal.game c.loop-goal.invariant.grows c.args.iterates.now c.requires.sets)

pub goal_moves-requires-clause-levels : goal.goal_moves-requires-clause-levels
goal_moves-requires-clause-levels c =
    c.requires.levels
    ∙ ap (λ (o : List ℕ). range_with_len (length o) room)
    (sym (grown c.args.game.now c.loop-goal.game c.loop-goal.invariant.grows).order)

pub loop-goal-preserved : goal.loop-goal-preserved
loop-goal-preserved c =
    let to_m = grown c.args.game.now c.loop-goal.game c.loop-goal.invariant.grows in
    let to_h = grown c.loop-goal.game c.goal_moves.new.game c.goal_moves.ensures.grows in
    record {
      grows = λ base b. c.goal_moves.ensures.grows base (c.loop-goal.invariant.grows base b);
      count = ap (λ (l : List GoodMoves). length l) c.in_ok-push.ensures.items
          ∙ (let long = length_push c.loop-goal.all.items c.in_ok-good.good in
          let count = c.loop-goal.invariant.count in omega (arith, long, count));
      good = λ d is.
          let is_m = kept_exact d c.args.game.now is c.loop-goal.game to_m in
          good_more d c.goal_moves.new.game c.args.iterates.now c.args.shapes.now c.loop-goal.all.items
          c.push.new.self.items c.in_ok-good.good c.loop-goal.goal c.loop-goal.invariant.count
          (all_good_kept d c.loop-goal.game c.goal_moves.new.game is_m to_h c.args.iterates.now c.args.shapes.now
          c.loop-goal.all.items (c.loop-goal.invariant.good d is))
          (subst (λ (l : List RankSet). IsGoodFor d c.goal_moves.new.game c.args.iterates.now.region l
          c.loop-goal.goal c.args.shapes.now c.in_ok-good.good) c.ranks_at-ranks.ensures.same
          (c.in_ok-good.ensures.good d is_m))
          c.in_ok-push.ensures.items;
    }

pub returns-clause-count : goal.returns-clause-count
returns-clause-count c =
    let ends = c.loop-goal.auto.goal-end in
    let last = c.loop-goal-test.false in
    let count = c.loop-goal.invariant.count in
    omega (arith, ends, last, count)

pub returns-clause-good : goal.returns-clause-good
returns-clause-good c = c.loop-goal.invariant.good

pub returns-in_err-good-clause-grows : goal.returns-in_err-good-clause-grows
returns-in_err-good-clause-grows c =
    λ base b. c.goal_moves.ensures.grows base (c.loop-goal.invariant.grows base b)

pub returns-in_err-push-clause-grows : goal.returns-in_err-push-clause-grows
returns-in_err-push-clause-grows c =
    λ base b. c.goal_moves.ensures.grows base (c.loop-goal.invariant.grows base b)
