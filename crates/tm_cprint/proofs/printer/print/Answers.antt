use Rattle.std.proofs.Common.{◌≡◌}
use Rattle.tm_syntax.specs.Design.View.{design_tree}
use Rattle.tm_cir.specs.View.{block_trees, trees_of}
use Rattle.tm_cprint.specs.Layout.{driver_text}
use Rattle.tm_cprint.proofs.Printed.Whole.{is_laid_out, reads_so, reads_only_so}
use Rattle.tm_cprint.proofs.printer.print.Goals as goal

laid_out : (c : goal.In_ok-push-2) →
    c.push-2.new.text.items ≡ driver_text (design_tree c.args.design.now) (trees_of c.args.blocks.now)
laid_out c =
    is_laid_out (design_tree c.args.design.now) (block_trees c.blocks-2.result.now) (trees_of c.args.blocks.now)
    _ _ _ _ c.new-text.ensures.items c.in_ok-push.ensures c.in_ok-push_blocks.ensures c.in_ok-push-2.ensures
    c.blocks-2.ensures

pub returns-clause-reads_so : goal.returns-clause-reads_so
returns-clause-reads_so c = reads_so c.args.design.now c.args.blocks.now c.push-2.new.text.items c.requires (laid_out c)

pub returns-clause-reads_only_so : goal.returns-clause-reads_only_so
returns-clause-reads_only_so c =
    reads_only_so c.args.design.now c.args.blocks.now c.push-2.new.text.items c.requires (laid_out c)
