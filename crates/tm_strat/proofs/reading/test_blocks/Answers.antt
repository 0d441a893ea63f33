use Rattle.std.proofs.Common.{List, [], ◌∷◌, ◌++◌, ap, ◌∙◌}
use Rattle.tm_cir.specs.Tree.{idle, test}
use Rattle.tm_cir.specs.View.{block_trees}
use Rattle.tm_cir.specs.declared.block.Block.{Block}
use Rattle.tm_cir.specs.declared.block.Block.TheVariants as blocks
use Rattle.tm_strat.proofs.Fitted.{one_test}
use Rattle.tm_strat.proofs.reading.test_blocks.Goals as goal

pub returns-clause-fits : goal.returns-clause-fits
returns-clause-fits c = λ d fits.
    one_test d c.args.counts c.in_ok-truth.truth c.new-list.result.items c.push.new.self.items c.push-2.new.self.items
    fits c.in_ok-truth.ensures.fits c.new-list.ensures.items c.in_ok-push.ensures.items c.in_ok-push-2.ensures.items

pub returns-clause-trees : goal.returns-clause-trees
returns-clause-trees c =
    ap block_trees
    (c.in_ok-push-2.ensures.items
    ∙ ap (λ (l : List Block). l ++ blocks.Idle ∷ [])
    (c.in_ok-push.ensures.items
    ∙ ap (λ (l : List Block). l ++ blocks.Test c.in_ok-truth.truth 1 1 ∷ []) c.new-list.ensures.items))
    ∙ (λ i. test (c.in_ok-truth.ensures.tree i) 1 1 ∷ idle ∷ [])
