use Rattle.std.proofs.Common.{◌∙◌, sym, ap, subst, arith}
use Rattle.tm_dd.specs.NodeId.{is_marked}
use Rattle.tm_dd.specs.Reduced.{IsNode}
use Rattle.tm_dd.specs.Table.{entry_at}
use Rattle.tm_dd.proofs.Nodes.{marked_node, node_of-entry, is_node, reduced}
use Rattle.tm_dd.proofs.store.Store.node.Goals as goal

pub returns-clause-value : goal.returns-clause-value
returns-clause-value c =
    let s = c.args.self.now in
    let entry = c.entry-entry.ensures.value ∙ ap (entry_at s) c.position.ensures in
    let lo = c.complement_if.ensures.value in
    let hi = c.complement_if-2.ensures.value in
    (λ i. record { level = c.entry-entry.result.level; lo = lo i; hi = hi i })
    ∙ ap (λ m. marked_node m c.entry-entry.result) c.is_marked-marked.ensures
    ∙ ap (marked_node (is_marked c.args.id)) entry
    ∙ sym (node_of-entry s c.args.id)

pub returns-clause-is_node : goal.returns-clause-is_node
returns-clause-is_node c =
    let s = c.args.self.now in
    subst (IsNode s c.args.id) (sym (node_of-entry s c.args.id) ∙ sym (returns-clause-value c))
    (is_node s c.entry-entry.ensures.unique c.args.id c.requires.known (omega (arith, c.requires.inner)))

pub returns-clause-reduced : goal.returns-clause-reduced
returns-clause-reduced c = reduced c.args.self.now c.entry-entry.ensures.unique
