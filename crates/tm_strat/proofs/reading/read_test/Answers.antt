use Rattle.tm_cir.specs.View.{block_trees}
use Rattle.tm_strat.proofs.Testing.{test_replied}
use Rattle.tm_strat.proofs.reading.read_test.Goals as goal
use Rattle.tm_syntax.specs.Design.View.{design_tree}

pub replies_of-requires-clause-fits : goal.replies_of-requires-clause-fits
replies_of-requires-clause-fits c = c.in_ok-list.ensures.fits (design_tree c.args.design.now) c.requires.counts

pub returns-clause-test : goal.returns-clause-test
returns-clause-test c =
    test_replied (design_tree c.args.design.now) c.replies_of.new.game c.args.counts c.args.predicate
    (block_trees c.in_ok-list.list.items) c.in_ok-replies.replies c.deref.result.now c.first_test.result
    c.in_ok-list.ensures.trees c.in_ok-replies.ensures.replies c.deref.ensures.value c.first_test.ensures
