use Rattle.std.proofs.Common.{rules}
use Rattle.tm_struct_parse.proofs.Popped.{drafted, part_begins, part_small, part_goes_on}
use Rattle.tm_struct_parse.proofs.draft.trees.Goals as goal

pub loop-named-init : goal.loop-named-init
loop-named-init c = part_begins c.args.drafts.items c.new-trees.result.items c.requires (search rules)

pub tree-requires : goal.tree-requires
tree-requires c =
    part_small (drafted c.args.drafts.items) c.loop-named.drafts.items _ c.loop-named.trees.items
    c.in-Some.named c.loop-named.invariant c.in-Some.ensures.items

pub loop-named-preserved : goal.loop-named-preserved
loop-named-preserved c =
    part_goes_on (drafted c.args.drafts.items) c.loop-named.drafts.items _ c.loop-named.trees.items _
    c.in-Some.named c.in_ok-tree.tree c.loop-named.invariant c.in-Some.ensures.items c.in_ok-push.ensures.items
    c.in_ok-tree.ensures
