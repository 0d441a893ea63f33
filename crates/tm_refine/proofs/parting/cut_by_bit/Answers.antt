use Rattle.std.proofs.Common.{inl, ℕ, ◌<◌, List, length, subst, sym, arith}
use Rattle.std.proofs.lemmas.Result.{IfOk-weaker}
use Rattle.tm_abs.proofs.Kept.{cells_kept}
use Rattle.tm_game.proofs.Growing.{grows_then}
use Rattle.tm_refine.proofs.PoolBits.{bit_set, bit_told}
use Rattle.tm_refine.proofs.PoolKeeps.{can_grown, decide_grown, has_pooled, pooled_of}
use Rattle.tm_refine.proofs.parting.cut_by_bit.Goals as goal

pub make-requires-clause-level : goal.make-requires-clause-level
make-requires-clause-level c = omega (arith, c.requires.level, c.order-order.ensures.levels)

pub make-requires-clause-lo_deeper : goal.make-requires-clause-lo_deeper
make-requires-clause-lo_deeper c = inl (omega arith)

pub make-requires-clause-hi_deeper : goal.make-requires-clause-hi_deeper
make-requires-clause-hi_deeper c = inl (omega arith)

pub split-requires-clause-cells : goal.split-requires-clause-cells
split-requires-clause-cells c =
    cells_kept c.args.game.now c.make.new.self c.make.ensures.grows c.args.cells.now c.requires.cells

pub split-requires-clause-pool : goal.split-requires-clause-pool
split-requires-clause-pool c =
    has_pooled c.make.new.self (can_grown c.args.game.now c.make.new.self c.make.ensures.grows c.requires.can)

pub split-requires-clause-set : goal.split-requires-clause-set
split-requires-clause-set c =
    bit_set c.make.new.self c.args.level c.in_ok-bit.bit
    (subst (λ (o : List ℕ). c.args.level < length o) (sym c.make.ensures.grows.order) c.requires.level)
    c.in_ok-bit.ensures.answer

pub returns-clause-cut : goal.returns-clause-cut
returns-clause-cut c =
    IfOk-weaker c.split.result _ _
    (λ o found d can.
    let there = decide_grown d c.args.game.now c.make.new.self c.make.ensures.grows can in
    bit_told d c.args.game.now c.make.new.self (sym c.make.ensures.grows.order) c.args.level c.in_ok-bit.bit
    c.in_ok-bit.ensures.answer _ o (found d (pooled_of d c.make.new.self there))) c.split.ensures.split

pub returns-clause-can : goal.returns-clause-can
returns-clause-can c =
    can_grown c.args.game.now c.split.new.game
    (grows_then _ _ _ c.make.ensures.grows c.split.ensures.grows) c.requires.can

pub returns-clause-grows : goal.returns-clause-grows
returns-clause-grows c = grows_then _ _ _ c.make.ensures.grows c.split.ensures.grows

pub returns-in_err-bit-clause-can : goal.returns-in_err-bit-clause-can
returns-in_err-bit-clause-can c =
    can_grown c.args.game.now c.make.new.self c.make.ensures.grows c.requires.can
