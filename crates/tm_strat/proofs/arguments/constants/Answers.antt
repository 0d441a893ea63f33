use Rattle.std.proofs.Common.{ℕ, List, ◌++◌, get_or, refl, ap, ◌∙◌, arith}
use Rattle.tm_flat.specs.BitRun.{number_at}
use Rattle.tm_strat.proofs.Written.{all_constants, constants_more}
use Rattle.tm_strat.specs.Spelled.{bit_in, constants_from}
use Rattle.tm_strat.specs.declared.expressions.Expression.{Expression}
use Rattle.tm_strat.proofs.arguments.constants.Goals as goal

pub loop-index-init : goal.loop-index-init
loop-index-init c = (
  ap (λ (l : List Expression). l ++ constants_from c.args.bits 0 c.args.widths.now) c.new-found.ensures.items,
  omega arith,
)

pub loop-index-preserved : goal.loop-index-preserved
loop-index-preserved c = (
  constants_more c.args.bits c.loop-index.first c.behind-first.result c.loop-index.index c.args.widths.now
      (get_or c.args.widths.now c.loop-index.index 0) c.constant-number.result c.loop-index.found.items
      c.push.new.self.items (constants_from c.args.bits 0 c.args.widths.now) c.loop-index-test.true refl
      (c.constant-number.ensures
      ∙ ap (λ (w : ℕ). number_at (bit_in c.args.bits) c.loop-index.first w) c.capped.ensures) c.behind-first.ensures
      c.in_ok-push.ensures.items c.loop-index.invariant.0,
  (let end = c.behind-first.ensures in omega (arith, end)),
)

pub returns : goal.returns
returns c =
    let last = c.loop-index-test.false in
    all_constants c.args.bits c.loop-index.first c.loop-index.index c.args.widths.now c.loop-index.found.items
    (constants_from c.args.bits 0 c.args.widths.now) (omega (arith, last)) c.loop-index.invariant.0
