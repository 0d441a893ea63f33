use Rattle.tm_struct.proofs.Turned.{part_begins, part_leads, part_goes_on}
use Rattle.tm_struct.proofs.laying.turned_over.Goals as goal

pub loop-block-init : goal.loop-block-init
loop-block-init c =
    part_begins c.args.first c.args.laid.items c.truncate.new.self.items c.new-blocks.result.items c.requires
    c.truncate.ensures.items c.new-blocks.ensures.items

pub turned-requires : goal.turned-requires
turned-requires c =
    part_leads c.args.first c.args.laid.items c.loop-block.laid.items c.pop.new.self.items c.loop-block.blocks.items
    c.in-Some.block c.loop-block.invariant c.in-Some.ensures.items

pub loop-block-preserved : goal.loop-block-preserved
loop-block-preserved c =
    part_goes_on c.args.first c.args.laid.items c.loop-block.laid.items c.pop.new.self.items c.loop-block.blocks.items
    c.push.new.self.items c.in-Some.block c.turned.result c.loop-block.invariant c.in-Some.ensures.items
    c.in_ok-push.ensures.items c.turned.ensures
