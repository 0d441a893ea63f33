use Rattle.std.proofs.Common.{rules}
use Rattle.tm_cparse.proofs.Popped.{labelled_trees, part_begins, part_small, part_goes_on}
use Rattle.tm_cparse.proofs.reader.blocks.Goals as goal

pub loop-labelled-init : goal.loop-labelled-init
loop-labelled-init c = part_begins c.args.written.items c.new-blocks.result.items c.requires (search rules)

pub block-requires : goal.block-requires
block-requires c =
    part_small (labelled_trees c.args.written.items) c.loop-labelled.written.items _ c.loop-labelled.blocks.items
    c.in-Some.labelled c.loop-labelled.invariant c.in-Some.ensures.items

pub loop-labelled-preserved : goal.loop-labelled-preserved
loop-labelled-preserved c =
    part_goes_on (labelled_trees c.args.written.items) c.loop-labelled.written.items _ c.loop-labelled.blocks.items _
    c.in-Some.labelled c.block.result c.loop-labelled.invariant (search rules) (search rules) c.block.ensures
