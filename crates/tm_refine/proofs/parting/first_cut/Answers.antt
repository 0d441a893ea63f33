use Rattle.std.proofs.Common.{◌≡◌, ℕ, List, length, ap, arith}
use Rattle.tm_abs.proofs.Kept.{cells_kept}
use Rattle.tm_flat_pool.specs.Predicates.{pool}
use Rattle.tm_game.proofs.Growing.{grows_none, grows_then}
use Rattle.tm_game_pool.specs.Separating.{predicates_at}
use Rattle.tm_refine.proofs.PoolBits.{bits_separate, level_there, ones_more}
use Rattle.tm_refine.proofs.PoolKeeps.{decide_grown}
use Rattle.tm_refine.proofs.RoundSides.{of_none, of_some}
use Rattle.tm_refine.proofs.parting.first_cut.Goals as goal

pub loop-level-init : goal.loop-level-init
loop-level-init c = record {
  grows = grows_none c.args.game.now;
  can = c.requires.can;
  ones = λ d can k below. absurd (omega (arith, below));
}

pub cut_by_bit-requires-clause-cells : goal.cut_by_bit-requires-clause-cells
cut_by_bit-requires-clause-cells c =
    cells_kept c.args.game.now c.loop-level.game c.loop-level.invariant.grows c.args.cells.now c.requires.cells

pub cut_by_bit-requires-clause-level : goal.cut_by_bit-requires-clause-level
cut_by_bit-requires-clause-level c =
    level_there c.args.game.now c.loop-level.game c.loop-level.invariant.grows c.order.result.now c.order.ensures.value
    c.loop-level.level c.loop-level-test.true

pub loop-level-preserved : goal.loop-level-preserved
loop-level-preserved c =
    let inv = c.loop-level.invariant in
    record {
      grows = grows_then _ _ _ inv.grows c.cut_by_bit.ensures.grows;
      can = c.cut_by_bit.ensures.can;
      ones = λ d can k below.
          ones_more c.args.game.now c.loop-level.game inv.grows c.loop-level.level d
          (predicates_at (pool d) c.args.cells.now.tracked.items) can (inv.ones d can)
          (of_none c.in_ok-pair.field-0 _ _
          (c.in_ok-pair.ensures.cut d (decide_grown d c.args.game.now c.loop-level.game inv.grows can))
          c.in_default.not-Some) k below;
    }

pub returns-in-Some-clause-apart : goal.returns-in-Some-clause-apart
returns-in-Some-clause-apart c = λ d can.
    of_some c.in_ok-pair.field-0 _ _ c.in-Some.pair
    (c.in_ok-pair.ensures.cut d (decide_grown d c.args.game.now c.loop-level.game c.loop-level.invariant.grows can))
    c.in-Some.is

pub returns-in-Some-clause-grows : goal.returns-in-Some-clause-grows
returns-in-Some-clause-grows c = grows_then _ _ _ c.loop-level.invariant.grows c.cut_by_bit.ensures.grows

pub returns-in_err-pair-clause-grows : goal.returns-in_err-pair-clause-grows
returns-in_err-pair-clause-grows c = grows_then _ _ _ c.loop-level.invariant.grows c.cut_by_bit.ensures.grows

pub returns-clause-apart : goal.returns-clause-apart
returns-clause-apart c = λ d can.
    let same : length c.order.result.now ≡ length c.args.game.now.order =
    ap (λ (l : List ℕ). length l) c.order.ensures.value in
    bits_separate d c.args.game.now can (predicates_at (pool d) c.args.cells.now.tracked.items)
    (λ k below.
    c.loop-level.invariant.ones d can k (omega (arith, below, same, c.loop-level-test.false)))
