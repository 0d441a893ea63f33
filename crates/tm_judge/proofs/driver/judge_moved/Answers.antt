use Rattle.std.proofs.Common.{ℕ, List, length, refl, subst, arith}
use Rattle.tm_dd.proofs.CallerLaws.{RanksRise-numbers}
use Rattle.tm_cir.specs.Answer.{Answers}
use Rattle.tm_cir.specs.View.{trees_of}
use Rattle.tm_sem.specs.Strategy.{Good}
use Rattle.tm_syntax.specs.Design.View.{design_tree}
use Rattle.tm_verdict.specs.Sets.{driver_sets}
use Rattle.tm_judge.proofs.Moving.{driver_in_order, few_places, moved_driver, same_driver_verdict, same_only_driver}
use Rattle.tm_judge.proofs.Moving.{whole_order}
use Rattle.tm_judge.proofs.driver.judge_moved.Goals as goal

pub overflow_cast-order : goal.overflow_cast-order
overflow_cast-order c =
    let few = few_places (design_tree c.args.design.now) c.args.order.now c.args.order.now c.requires.order refl
    c.requires.can.sound in
    omega (arith, few)

pub reorder_driver-moved-requires-clause-ranks : goal.reorder_driver-moved-requires-clause-ranks
reorder_driver-moved-requires-clause-ranks c =
    RanksRise-numbers c.in-Ok.dd.table c.in-Ok.ensures.ranks (length c.args.order.now)
    (omega (arith, c.in-Ok.ensures.levels))

pub reorder_driver-moved-requires-clause-count : goal.reorder_driver-moved-requires-clause-count
reorder_driver-moved-requires-clause-count c =
    few_places (design_tree c.args.design.now) c.args.order.now c.args.order.now c.requires.order refl
    c.requires.can.sound

pub reorder_driver-moved-requires-clause-order : goal.reorder_driver-moved-requires-clause-order
reorder_driver-moved-requires-clause-order c =
    whole_order (design_tree c.args.design.now) c.args.order.now c.args.order.now c.requires.order refl

pub reorder_driver-moved-requires-clause-fits : goal.reorder_driver-moved-requires-clause-fits
reorder_driver-moved-requires-clause-fits c =
    driver_in_order (design_tree c.args.design.now) c.args.order.now c.args.order.now c.requires.order refl
    (trees_of c.args.blocks.now) c.args.cert.now c.requires.can

pub judge_in_order-verdict-requires : goal.judge_in_order-verdict-requires
judge_in_order-verdict-requires c =
    moved_driver (design_tree c.args.design.now) c.args.order.now c.args.order.now c.requires.order refl
    (trees_of c.args.blocks.now) c.args.cert.now c.in-Ok-moved.moved c.requires.can c.in-Ok-moved.ensures.fits

pub returns-clause-verdict : goal.returns-clause-verdict
returns-clause-verdict c =
    same_driver_verdict (design_tree c.args.design.now) (trees_of c.args.blocks.now)
    (driver_sets (design_tree c.args.design.now) c.in-Ok-moved.moved)
    (driver_sets (design_tree c.args.design.now) c.args.cert.now)
    (c.in-Ok-moved.ensures.sets (design_tree c.args.design.now)) c.judge_in_order-verdict.result
    c.judge_in_order-verdict.ensures.verdict

pub returns-clause-only : goal.returns-clause-only
returns-clause-only c =
    same_only_driver (design_tree c.args.design.now) (trees_of c.args.blocks.now)
    (driver_sets (design_tree c.args.design.now) c.in-Ok-moved.moved)
    (driver_sets (design_tree c.args.design.now) c.args.cert.now)
    (c.in-Ok-moved.ensures.sets (design_tree c.args.design.now)) c.judge_in_order-verdict.result
    c.judge_in_order-verdict.ensures.only

pub returns-clause-good : goal.returns-clause-good
returns-clause-good c =
    λ is. subst (λ (ranks : List ℕ). Good (design_tree c.args.design.now) (Answers (trees_of c.args.blocks.now)) ranks)
    c.in-Ok-moved.ensures.ranks (c.judge_in_order-verdict.ensures.good is)
