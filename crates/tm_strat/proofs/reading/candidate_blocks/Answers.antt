use Rattle.std.proofs.Common.{refl, ap, ◌∙◌}
use Rattle.tm_cir.specs.View.{block_trees}
use Rattle.tm_cir.specs.declared.block.Block.TheVariants.{Idle}
use Rattle.tm_strat.proofs.Fitted.{anywhere_more, moves_fit, none_anywhere}
use Rattle.tm_strat.proofs.Giving.{trees_ended, trees_pushed}
use Rattle.tm_strat.specs.Trees.{move_tree}
use Rattle.tm_strat.proofs.reading.candidate_blocks.Goals as goal
use Rattle.tm_syntax.specs.Design.View.{design_tree}

pub loop-candidate-init : goal.loop-candidate-init
loop-candidate-init c = record {
  fit = none_anywhere (design_tree c.args.design.now) c.new-list.result.items c.new-list.ensures.items;
  trees = ap block_trees c.new-list.ensures.items;
}

pub loop-candidate-preserved : goal.loop-candidate-preserved
loop-candidate-preserved c =
    let d = design_tree c.args.design.now in
    record {
      fit = anywhere_more d c.loop-candidate.list.items c.push.new.self.items c.in_ok-block.block
          c.loop-candidate.invariant.fit c.in_ok-block.ensures.fits c.in_ok-push.ensures.items;
      trees = trees_pushed d c.args.counts c.args.shapes.now c.args.candidates.now c.loop-candidate.candidate-index
          c.candidate-item.result c.loop-candidate.list.items c.push.new.self.items c.in_ok-block.block
          c.loop-candidate.invariant.trees c.loop-candidate-test.true c.candidate-item.is
          (c.in_ok-block.ensures.tree
          ∙ (λ i. move_tree d c.args.counts (c.shape_at-shape.ensures i) (c.deref.ensures.value i)))
          c.in_ok-push.ensures.items;
    }

pub returns-clause-fits : goal.returns-clause-fits
returns-clause-fits c =
    moves_fit (design_tree c.args.design.now) c.loop-candidate.list.items c.push-2.new.self.items
    c.loop-candidate.invariant.fit c.in_ok-push-2.ensures.items

pub returns-clause-trees : goal.returns-clause-trees
returns-clause-trees c =
    trees_ended (design_tree c.args.design.now) c.args.counts c.args.shapes.now c.args.candidates.now
    c.loop-candidate.candidate-index c.loop-candidate.list.items c.push-2.new.self.items Idle
    c.loop-candidate.invariant.trees c.loop-candidate-test.false refl c.in_ok-push-2.ensures.items
