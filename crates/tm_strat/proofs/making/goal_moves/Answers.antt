use Rattle.std.proofs.Common.{ℕ, List, Some, length, sym, ap, ◌∙◌, subst, arith}
use Rattle.std.proofs.lemmas.List.{length-map, length_push}
use Rattle.std.proofs.lemmas.Option.{slice_get-get_or}
use Rattle.tm_solve_exact.proofs.Growing.{kept_exact}
use Rattle.tm_strat.proofs.Carrying.{grown}
use Rattle.tm_strat.proofs.Made.{all_given_kept, all_good_kept, all_made_kept, made_more, made_none}
use Rattle.tm_strat.specs.Goods.{ranks_in}
use Rattle.tm_strat.specs.Served.{AreGivenFor, candidate_trees}
use Rattle.tm_strat.specs.Trees.{candidate_tree}
use Rattle.tm_strat.specs.declared.choosing.GoalMoves.{GoalMoves}
use Rattle.tm_strat.specs.declared.reading.Given.{Given}
use Rattle.tm_strat.proofs.making.goal_moves.Goals as goal
use Rattle.tm_syntax.specs.Design.View.{design_tree}

pub read_candidates-requires-clause-of : goal.read_candidates-requires-clause-of
read_candidates-requires-clause-of c = c.requires.exact.ordered.of

pub loop-index-init : goal.loop-index-init
loop-index-init c =
    let d = design_tree c.args.design.now in
    let to_r = grown c.args.game.now c.read_candidates.new.game c.read_candidates.ensures.grows in
    record {
      grows = c.read_candidates.ensures.grows;
      count = ap (λ (l : List GoalMoves). length l) c.new-goals.ensures.items;
      given_are = c.in_ok-given.ensures.given;
      good = all_good_kept d c.args.game.now c.read_candidates.new.game c.requires.exact to_r c.args.iterates.now
          c.args.shapes.now c.args.goods.now c.requires.goods;
      made = made_none d c.read_candidates.new.game c.args.iterates.now c.args.shapes.now
          (candidate_trees d c.args.counts c.args.shapes.now c.args.candidates.now) c.new-goals.result.items
          c.new-goals.ensures.items;
    }

pub loop-index-preserved : goal.loop-index-preserved
loop-index-preserved c =
    let d = design_tree c.args.design.now in
    let is_m = kept_exact d c.args.game.now c.requires.exact c.loop-index.game
    (grown c.args.game.now c.loop-index.game c.loop-index.invariant.grows) in
    let to_h = grown c.loop-index.game c.goal_move.new.game c.goal_move.ensures.grows in
    let shapes = c.args.shapes.now in
    let it = c.args.iterates.now in
    let blocks = candidate_trees d c.args.counts shapes c.args.candidates.now in
    let long = length-map c.args.candidates.now (candidate_tree d c.args.counts shapes) in
    record {
      grows = λ base b. c.goal_move.ensures.grows base (c.loop-index.invariant.grows base b);
      count = ap (λ (l : List GoalMoves). length l) c.in_ok-push.ensures.items
          ∙ (let more = length_push c.loop-index.goals.items c.in_ok-made.made in
          let count = c.loop-index.invariant.count in omega (arith, more, count));
      given_are = all_given_kept d c.loop-index.game c.goal_move.new.game is_m to_h shapes blocks
          c.in_ok-given.given.items (length c.args.candidates.now) c.loop-index.invariant.given_are;
      good = all_good_kept d c.loop-index.game c.goal_move.new.game is_m to_h it shapes c.args.goods.now
          c.loop-index.invariant.good;
      made = made_more d c.goal_move.new.game it shapes blocks c.loop-index.goals.items c.push.new.self.items
          c.in_ok-made.made c.loop-index.index c.loop-index.invariant.count
          (all_made_kept d c.loop-index.game c.goal_move.new.game is_m to_h it shapes blocks c.loop-index.goals.items
          c.loop-index.invariant.made)
          (c.in_ok-made.ensures.made d it.region (ranks_in it c.loop-index.index) c.loop-index.index shapes blocks is_m
          (c.loop-index.invariant.good.each c.loop-index.index c.index-goods-index.result
          (slice_get-get_or c.args.goods.now c.loop-index.index c.index-goods-index.result c.loop-index-test.true
          ∙ ap Some (sym c.index-goods-index.is)))
          (subst (λ (n : ℕ). AreGivenFor d c.loop-index.game shapes blocks c.deref.result.now n) (sym long)
          (subst (λ (l : List Given). AreGivenFor d c.loop-index.game shapes blocks l (length c.args.candidates.now))
          (sym c.deref.ensures.value) c.loop-index.invariant.given_are)))
          c.in_ok-push.ensures.items;
    }

pub returns-clause-count : goal.returns-clause-count
returns-clause-count c =
    let ends = c.loop-index.auto.index-end in
    let last = c.loop-index-test.false in
    let count = c.loop-index.invariant.count in
    omega (arith, ends, last, count)

pub returns-clause-made : goal.returns-clause-made
returns-clause-made c = c.loop-index.invariant.made

pub returns-in_err-made-clause-grows : goal.returns-in_err-made-clause-grows
returns-in_err-made-clause-grows c = λ base b. c.goal_move.ensures.grows base (c.loop-index.invariant.grows base b)

pub returns-in_err-push-clause-grows : goal.returns-in_err-push-clause-grows
returns-in_err-push-clause-grows c = λ base b. c.goal_move.ensures.grows base (c.loop-index.invariant.grows base b)

pub returns-clause-grows : goal.returns-clause-grows
returns-clause-grows c = c.loop-index.invariant.grows
