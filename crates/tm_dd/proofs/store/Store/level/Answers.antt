use Rattle.std.proofs.Common.{sym, ap, ◌∙◌}
use Rattle.tm_dd.specs.declared.node.Node.{Node}
use Rattle.tm_dd.specs.Table.{entry_at}
use Rattle.tm_dd.proofs.Meaning.{level_of-entry}
use Rattle.tm_dd.proofs.Nodes.{reduced}
use Rattle.tm_dd.proofs.store.Store.level.Goals as goal

pub returns-clause-value : goal.returns-clause-value
returns-clause-value c =
    ap (λ (e : Node). e.level) c.entry.ensures.value
    ∙ ap (λ p. (entry_at c.args.self.now p).level) c.position.ensures
    ∙ sym (level_of-entry c.args.self.now c.args.id)

pub returns-clause-reduced : goal.returns-clause-reduced
returns-clause-reduced c = reduced c.args.self.now c.entry.ensures.unique
