use Rattle.std.proofs.Common.{◌≡◌, ℕ, length, ap, subst, arith}
use Rattle.tm_cir.specs.View.{block_trees}
use Rattle.tm_strat.proofs.Fitted.{none_spelled, spelled_more}
use Rattle.tm_strat.proofs.Written.{all_drafts, drafts_more}
use Rattle.tm_strat.specs.Fitting.{AreSpelled}
use Rattle.tm_strat.proofs.spelling.spelled.Goals as goal
use Rattle.tm_syntax.specs.Design.View.{design_tree}

pub loop-index-init : goal.loop-index-init
loop-index-init c = (
  none_spelled (design_tree c.args.design.now) c.args.drafted.now c.new-blocks.result.items c.new-blocks.ensures.items,
  ap block_trees c.new-blocks.ensures.items,
)

pub loop-index-preserved : goal.loop-index-preserved
loop-index-preserved c = (
  spelled_more (design_tree c.args.design.now) c.args.drafted.now c.loop-index.blocks.items c.push.new.self.items
      c.loop-index.index c.block_in-block.result c.in_ok-spelled.spelled c.loop-index.invariant.0
      c.block_in-block.ensures c.in_ok-spelled.ensures.fits c.in_ok-push.ensures.items,
  drafts_more (design_tree c.args.design.now) c.args.spelling.now c.args.drafted.now c.loop-index.index
      c.block_in-block.result c.loop-index.blocks.items c.push.new.self.items c.in_ok-spelled.spelled
      c.block_in-block.ensures c.loop-index.invariant.1 c.in_ok-spelled.ensures.tree c.in_ok-push.ensures.items,
)

pub returns-clause-fits : goal.returns-clause-fits
returns-clause-fits c =
    let ends = c.loop-index.auto.index-end in
    let last = c.loop-index-test.false in
    let all : c.loop-index.index ≡ length c.args.drafted.now = omega (arith, ends, last) in
    subst (λ (n : ℕ). AreSpelled (design_tree c.args.design.now) c.args.drafted.now c.loop-index.blocks.items n) all
    c.loop-index.invariant.0

pub returns-clause-trees : goal.returns-clause-trees
returns-clause-trees c =
    let last = c.loop-index-test.false in
    all_drafts (design_tree c.args.design.now) c.args.spelling.now c.args.drafted.now c.loop-index.index
    c.loop-index.blocks.items (omega (arith, last)) c.loop-index.invariant.1
