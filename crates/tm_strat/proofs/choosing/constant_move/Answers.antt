use Rattle.std.proofs.Common.{◌≡◌, ℕ, Option, length, subst, arith}
use Rattle.tm_strat.proofs.Choices.{design_kept, known_kept, pairs_kept}
use Rattle.tm_strat.proofs.Constants.{apart_back, none_begun, none_more, state_back}
use Rattle.tm_strat.specs.Choice.{id_in}
use Rattle.tm_strat.specs.Constants.{BitsOrNone, NoneBelow}
use Rattle.tm_strat.proofs.choosing.constant_move.Goals as goal

pub loop-shape-init : goal.loop-shape-init
loop-shape-init c = ((λ base b. b), none_begun c.args.game.now c.args.pairs.now c.args.set)

pub good_bits-requires-clause-design : goal.good_bits-requires-clause-design
good_bits-requires-clause-design c =
    design_kept c.args.game.now c.loop-shape.game c.requires.design c.loop-shape.invariant.0

pub good_bits-requires-clause-pairs : goal.good_bits-requires-clause-pairs
good_bits-requires-clause-pairs c =
    pairs_kept c.args.game.now c.loop-shape.game c.requires.design c.loop-shape.invariant.0
    (id_in c.args.pairs.now c.loop-shape.shape) (c.requires.pairs c.loop-shape.shape)

pub good_bits-requires-clause-set : goal.good_bits-requires-clause-set
good_bits-requires-clause-set c =
    known_kept c.args.game.now c.loop-shape.game c.requires.design c.loop-shape.invariant.0 c.args.set c.requires.set

pub returns-in-Some-clause-value : goal.returns-in-Some-clause-value
returns-in-Some-clause-value c =
    state_back c.args.game.now c.loop-shape.game c.requires.design c.loop-shape.invariant.0
    (id_in c.args.pairs.now c.loop-shape.shape) c.args.set (c.requires.pairs c.loop-shape.shape) c.requires.set
    c.in-Some.bits
    (subst (λ (o : Option ℕ). BitsOrNone c.loop-shape.game (id_in c.args.pairs.now c.loop-shape.shape) c.args.set o)
    c.in-Some.is c.in_ok-found.ensures.value)

pub loop-shape-preserved : goal.loop-shape-preserved
loop-shape-preserved c = (
  (λ base b. c.good_bits.ensures.grows base (c.loop-shape.invariant.0 base b)),
  none_more c.args.game.now c.args.pairs.now c.args.set c.loop-shape.shape c.loop-shape.invariant.1
      (apart_back c.args.game.now c.loop-shape.game c.requires.design c.loop-shape.invariant.0
      (id_in c.args.pairs.now c.loop-shape.shape) c.args.set (c.requires.pairs c.loop-shape.shape) c.requires.set
      (subst (λ (o : Option ℕ).
      BitsOrNone c.loop-shape.game (id_in c.args.pairs.now c.loop-shape.shape) c.args.set o)
      c.in-None.is c.in_ok-found.ensures.value)),
)

pub returns-clause-value : goal.returns-clause-value
returns-clause-value c =
    let here = c.loop-shape-test.false in
    let ends = c.loop-shape.auto.shape-end in
    let last : c.loop-shape.shape ≡ length c.args.pairs.now = omega (arith, here, ends) in
    subst (λ (n : ℕ). NoneBelow c.args.game.now c.args.pairs.now c.args.set n) last c.loop-shape.invariant.1
