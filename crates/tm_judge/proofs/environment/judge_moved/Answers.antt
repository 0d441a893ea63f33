use Rattle.std.proofs.Common.{List, length, refl, subst, arith}
use Rattle.tm_dd.proofs.CallerLaws.{RanksRise-numbers}
use Rattle.tm_envcheck.specs.Verdict.{IsLostWithin}
use Rattle.tm_sem.specs.Certificates.{Level}
use Rattle.tm_syntax.specs.Design.View.{design_tree}
use Rattle.tm_verdict.specs.Sets.{levels_of}
use Rattle.tm_judge.proofs.Moving.{environment_in_order, few_places, moved_environment, same_level_verdict}
use Rattle.tm_judge.proofs.Moving.{same_only_levels, whole_order}
use Rattle.tm_judge.proofs.environment.judge_moved.Goals as goal

pub overflow_cast-order : goal.overflow_cast-order
overflow_cast-order c =
    let few = few_places (design_tree c.args.design.now) c.args.order.now c.args.order.now c.requires.order refl
    c.requires.can.sound in
    omega (arith, few)

pub reorder_environment-moved-requires-clause-ranks : goal.reorder_environment-moved-requires-clause-ranks
reorder_environment-moved-requires-clause-ranks c =
    RanksRise-numbers c.in-Ok.dd.table c.in-Ok.ensures.ranks (length c.args.order.now)
    (omega (arith, c.in-Ok.ensures.levels))

pub reorder_environment-moved-requires-clause-count : goal.reorder_environment-moved-requires-clause-count
reorder_environment-moved-requires-clause-count c =
    few_places (design_tree c.args.design.now) c.args.order.now c.args.order.now c.requires.order refl
    c.requires.can.sound

pub reorder_environment-moved-requires-clause-order : goal.reorder_environment-moved-requires-clause-order
reorder_environment-moved-requires-clause-order c =
    whole_order (design_tree c.args.design.now) c.args.order.now c.args.order.now c.requires.order refl

pub reorder_environment-moved-requires-clause-fits : goal.reorder_environment-moved-requires-clause-fits
reorder_environment-moved-requires-clause-fits c =
    environment_in_order (design_tree c.args.design.now) c.args.order.now c.args.order.now c.requires.order refl
    c.args.cert.now c.requires.can

pub judge_in_order-verdict-requires : goal.judge_in_order-verdict-requires
judge_in_order-verdict-requires c =
    moved_environment (design_tree c.args.design.now) c.args.order.now c.args.order.now c.requires.order refl
    c.args.cert.now c.in-Ok-moved.moved c.requires.can c.in-Ok-moved.ensures.fits

pub returns-clause-verdict : goal.returns-clause-verdict
returns-clause-verdict c =
    same_level_verdict (design_tree c.args.design.now) (levels_of (design_tree c.args.design.now) c.in-Ok-moved.moved)
    (levels_of (design_tree c.args.design.now) c.args.cert.now)
    (c.in-Ok-moved.ensures.sets (design_tree c.args.design.now))
    c.judge_in_order-verdict.result c.judge_in_order-verdict.ensures.verdict

pub returns-clause-only : goal.returns-clause-only
returns-clause-only c =
    same_only_levels (design_tree c.args.design.now) (levels_of (design_tree c.args.design.now) c.in-Ok-moved.moved)
    (levels_of (design_tree c.args.design.now) c.args.cert.now)
    (c.in-Ok-moved.ensures.sets (design_tree c.args.design.now))
    c.judge_in_order-verdict.result c.judge_in_order-verdict.ensures.only

pub returns-clause-within : goal.returns-clause-within
returns-clause-within c =
    λ is. subst (λ (ls : List Level). IsLostWithin (design_tree c.args.design.now) ls)
    (c.in-Ok-moved.ensures.sets (design_tree c.args.design.now)) (c.judge_in_order-verdict.ensures.within is)
