use Rattle.std.proofs.Common.{List, length, sym, subst, ap, ◌∙◌}
use Rattle.tm_solve_exact.proofs.Growing.{kept_exact}
use Rattle.tm_strat.proofs.Carrying.{grown, sized_stays}
use Rattle.tm_strat.proofs.Made.{all_good_kept, good_read, made_read}
use Rattle.tm_strat.proofs.Prepared.{choice_made}
use Rattle.tm_strat.proofs.StateWidths.{wide_states}
use Rattle.tm_strat.proofs.Testing.{sets_kept}
use Rattle.tm_strat.specs.Prepared.{AreShapesOf}
use Rattle.tm_strat.specs.Served.{candidate_trees}
use Rattle.tm_strat.specs.declared.good.GoodMoves.{GoodMoves}
use Rattle.tm_strat.proofs.making.prepare.Goals as goal
use Rattle.tm_syntax.specs.Design.View.{design_tree}

pub chooser_of-requires : goal.chooser_of-requires
chooser_of-requires c = c.requires.sized.levels

pub good_moves-goods-requires-clause-of : goal.good_moves-goods-requires-clause-of
good_moves-goods-requires-clause-of c =
    let d = design_tree c.args.design.now in (d, c.tell.ensures d c.requires.of)

pub good_moves-goods-requires-clause-levels : goal.good_moves-goods-requires-clause-levels
good_moves-goods-requires-clause-levels c = c.deref-2.ensures.value ∙ c.in-Ok.ensures.levels

pub all_tests-tests-requires-clause-exact : goal.all_tests-tests-requires-clause-exact
all_tests-tests-requires-clause-exact c =
    let d = design_tree c.args.design.now in
    kept_exact d c.args.game.now (c.tell.ensures d c.requires.of) c.candidates-candidates.new.game
    (grown c.args.game.now c.candidates-candidates.new.game
    (λ base b. c.candidates-candidates.ensures base (c.good_moves-goods.ensures.grows base b)))

pub all_tests-tests-requires-clause-sized : goal.all_tests-tests-requires-clause-sized
all_tests-tests-requires-clause-sized c =
    sized_stays c.args.game.now c.candidates-candidates.new.game
    (λ base b. c.candidates-candidates.ensures base (c.good_moves-goods.ensures.grows base b)) c.requires.sized

pub goal_moves-goals-requires-clause-exact : goal.goal_moves-goals-requires-clause-exact
goal_moves-goals-requires-clause-exact c =
    let d = design_tree c.args.design.now in
    kept_exact d c.args.game.now (c.tell.ensures d c.requires.of) c.all_tests-tests.new.game
    (grown c.args.game.now c.all_tests-tests.new.game
    (λ base b. c.all_tests-tests.ensures.grows base
    (c.candidates-candidates.ensures base (c.good_moves-goods.ensures.grows base b))))

pub goal_moves-goals-requires-clause-sized : goal.goal_moves-goals-requires-clause-sized
goal_moves-goals-requires-clause-sized c =
    sized_stays c.args.game.now c.all_tests-tests.new.game
    (λ base b. c.all_tests-tests.ensures.grows base
    (c.candidates-candidates.ensures base (c.good_moves-goods.ensures.grows base b)))
    c.requires.sized

pub goal_moves-goals-requires-clause-goods : goal.goal_moves-goals-requires-clause-goods
goal_moves-goals-requires-clause-goods c =
    let d = design_tree c.args.design.now in
    let is = c.tell.ensures d c.requires.of in
    let to_m = grown c.args.game.now c.good_moves-goods.new.game c.good_moves-goods.ensures.grows in
    let to_t = grown c.good_moves-goods.new.game c.all_tests-tests.new.game
    (λ base b. c.all_tests-tests.ensures.grows base (c.candidates-candidates.ensures base b)) in
    good_read d c.all_tests-tests.new.game c.args.iterates.now c.deref.result.now c.deref-5.result.now
    c.in-Ok-goods.given.items c.deref-7.result.now (c.deref-5.ensures.value ∙ sym c.deref.ensures.value)
    c.deref-7.ensures.value
    (all_good_kept d c.good_moves-goods.new.game c.all_tests-tests.new.game
    (kept_exact d c.args.game.now is c.good_moves-goods.new.game to_m) to_t c.args.iterates.now c.deref.result.now
    c.in-Ok-goods.given.items (c.in-Ok-goods.ensures.good d is))

pub returns-in-Err-goals-clause-grows : goal.returns-in-Err-goals-clause-grows
returns-in-Err-goals-clause-grows c =
    λ base b.
    c.goal_moves-goals.ensures.grows base
    (c.all_tests-tests.ensures.grows base
    (c.candidates-candidates.ensures base (c.good_moves-goods.ensures.grows base b)))

pub returns-in-Err-widths-clause-grows : goal.returns-in-Err-widths-clause-grows
returns-in-Err-widths-clause-grows c =
    λ base b.
    c.goal_moves-goals.ensures.grows base
    (c.all_tests-tests.ensures.grows base
    (c.candidates-candidates.ensures base (c.good_moves-goods.ensures.grows base b)))

pub returns-clause-grows : goal.returns-clause-grows
returns-clause-grows c =
    λ base b.
    c.goal_moves-goals.ensures.grows base
    (c.all_tests-tests.ensures.grows base
    (c.candidates-candidates.ensures base (c.good_moves-goods.ensures.grows base b)))

pub returns-clause-choice : goal.returns-clause-choice
returns-clause-choice c =
    let d = design_tree c.args.design.now in
    let is = c.tell.ensures d c.requires.of in
    let to_t = grown c.args.game.now c.all_tests-tests.new.game
    (λ base b. c.all_tests-tests.ensures.grows base
    (c.candidates-candidates.ensures base (c.good_moves-goods.ensures.grows base b))) in
    let to_h = grown c.all_tests-tests.new.game c.goal_moves-goals.new.game c.goal_moves-goals.ensures.grows in
    let is_t = kept_exact d c.args.game.now is c.all_tests-tests.new.game to_t in
    let shapes = c.in-Ok.given.shapes.items in
    let candidates = c.in-Ok-candidates.given.items in
    choice_made d c.goal_moves-goals.new.game
    (kept_exact d c.all_tests-tests.new.game is_t c.goal_moves-goals.new.game to_h) shapes
    c.in-Ok.ensures.few (candidate_trees d c.counts_of-counts.result shapes candidates) c.args.iterates.now
    c.in-Ok-goals.given.items
    (made_read d c.goal_moves-goals.new.game c.args.iterates.now c.counts_of-counts.result shapes c.deref-5.result.now
    candidates c.deref-6.result.now c.in-Ok-goals.given.items c.deref-5.ensures.value c.deref-6.ensures.value
    c.in-Ok-goals.ensures.made)
    c.counts_of-counts.result c.counts_of-counts.ensures c.in-Ok-tests.given.predicates.items
    c.in-Ok-tests.given.table.holds.items
    (sets_kept d c.all_tests-tests.new.game c.goal_moves-goals.new.game is_t to_h c.counts_of-counts.result
    c.in-Ok-tests.given.predicates.items c.in-Ok-tests.given.table.holds.items c.in-Ok-tests.ensures.sets)
    c.in-Ok-tests.ensures.bits (wide_states d c.args.game.now c.requires.of c.requires.sized)

pub returns-clause-made : goal.returns-clause-made
returns-clause-made c =
    let d = design_tree c.args.design.now in
    let is = c.tell.ensures d c.requires.of in
    let to_t = grown c.args.game.now c.all_tests-tests.new.game
    (λ base b. c.all_tests-tests.ensures.grows base
    (c.candidates-candidates.ensures base (c.good_moves-goods.ensures.grows base b))) in
    let to_h = grown c.all_tests-tests.new.game c.goal_moves-goals.new.game c.goal_moves-goals.ensures.grows in
    let is_t = kept_exact d c.args.game.now is c.all_tests-tests.new.game to_t in
    let shapes = c.shapes_of-shapes.result.items in
    let candidates = c.in-Ok-candidates.given.items in
    record {
      tests_are = sets_kept d c.all_tests-tests.new.game c.goal_moves-goals.new.game is_t to_h c.counts_of-counts.result
          c.in-Ok-tests.given.predicates.items c.in-Ok-tests.given.table.holds.items c.in-Ok-tests.ensures.sets;
      few_tests = c.in-Ok-tests.ensures.few;
      shapes = subst (AreShapesOf d) (sym c.shapes_of-shapes.ensures) c.in-Ok.ensures.all;
      widths = c.in-Ok-widths.ensures;
      moves = made_read d c.goal_moves-goals.new.game c.args.iterates.now c.counts_of-counts.result shapes
          c.deref-5.result.now candidates c.deref-6.result.now c.in-Ok-goals.given.items
          (c.deref-5.ensures.value ∙ sym c.shapes_of-shapes.ensures) c.deref-6.ensures.value
          c.in-Ok-goals.ensures.made;
      count_is = c.in-Ok-goals.ensures.count
          ∙ ap (λ (l : List GoodMoves). length l) c.deref-7.ensures.value
          ∙ c.in-Ok-goods.ensures.count;
    }

pub returns-in-Err-candidates-clause-grows : goal.returns-in-Err-candidates-clause-grows
returns-in-Err-candidates-clause-grows c =
    λ base b. c.candidates-candidates.ensures base (c.good_moves-goods.ensures.grows base b)

pub returns-in-Err-tests-clause-grows : goal.returns-in-Err-tests-clause-grows
returns-in-Err-tests-clause-grows c =
    λ base b. c.all_tests-tests.ensures.grows base
    (c.candidates-candidates.ensures base (c.good_moves-goods.ensures.grows base b))
