use Rattle.std.proofs.Common.{Bool, subst, sym}
use Rattle.std.proofs.lemmas.Result.{IfOk-weaker}
use Rattle.tm_refine.proofs.PoolKeeps.{has_pooled, keeps}
use Rattle.tm_refine.proofs.PoolParts.{lower_is, upper_is}
use Rattle.tm_refine.specs.Pooled.{pool_ids, tests_of}
use Rattle.tm_refine.specs.Sided.{side_part}
use Rattle.tm_solve.specs.Ids.{Is}
use Rattle.tm_solve_exact.specs.Exact.{exact_game, set_of}
use Rattle.tm_refine.proofs.parts.part_over.Goals as goal

pub upper-part-requires-clause-pool : goal.upper-part-requires-clause-pool
upper-part-requires-clause-pool c = has_pooled c.args.game.now c.requires.can

pub upper-part-requires-clause-set : goal.upper-part-requires-clause-set
upper-part-requires-clause-set c = c.requires.set.set

pub lower-part-requires-clause-pool : goal.lower-part-requires-clause-pool
lower-part-requires-clause-pool c = has_pooled c.args.game.now c.requires.can

pub lower-part-requires-clause-set : goal.lower-part-requires-clause-set
lower-part-requires-clause-set c = c.requires.set.set

pub returns-then-upper-clause-value : goal.returns-then-upper-clause-value
returns-then-upper-clause-value c =
    IfOk-weaker c.upper-part.result _ _
    (λ id answer.
    subst (λ (side : Bool). Is (exact_game c.args.game.now).states (pool_ids c.upper-part.new.game) id
    (side_part side (exact_game c.args.game.now).states (tests_of c.args.game.now c.args.cells.now.tracked.items)
    (set_of c.args.game.now c.args.set))) (sym c.if-upper.true)
    (upper_is c.args.game.now c.upper-part.new.game c.requires.can c.upper-part.ensures.grows
    c.args.cells.now.tracked.items c.args.set id answer)) c.upper-part.ensures.part

pub returns-then-upper-clause-kept : goal.returns-then-upper-clause-kept
returns-then-upper-clause-kept c =
    keeps c.args.game.now c.upper-part.new.game c.requires.can c.upper-part.ensures.grows c.tell.ensures

pub returns-clause-value : goal.returns-clause-value
returns-clause-value c =
    IfOk-weaker c.lower-part.result _ _
    (λ id answer.
    subst (λ (side : Bool). Is (exact_game c.args.game.now).states (pool_ids c.lower-part.new.game) id
    (side_part side (exact_game c.args.game.now).states (tests_of c.args.game.now c.args.cells.now.tracked.items)
    (set_of c.args.game.now c.args.set))) (sym c.if-upper.false)
    (lower_is c.args.game.now c.lower-part.new.game c.requires.can c.lower-part.ensures.grows
    c.args.cells.now.tracked.items c.args.set id answer)) c.lower-part.ensures.part

pub returns-clause-kept : goal.returns-clause-kept
returns-clause-kept c =
    keeps c.args.game.now c.lower-part.new.game c.requires.can c.lower-part.ensures.grows c.tell-2.ensures
