use Rattle.std.proofs.Common.{◌≡◌, true, refl, ap, ◌∙◌, rules}
use Rattle.indexmap.specs.IndexSet.{insert_key}
use Rattle.tm_atoms.specs.Inner.Numbers.{NumberTables}
use Rattle.tm_atoms.specs.contracts.node.NodePartialEq.TheImpl.{eq-value}
use Rattle.tm_atoms.specs.declared.node.Node.{Node}
use Rattle.tm_atoms.proofs.Tables.{grown-node, sound-node}
use Rattle.tm_atoms.proofs.table.NodeTable.node.Goals as goal

itself : (n : Node) → eq-value.it n n ≡ true
itself n = search rules

pub invariant_of-self-2 : goal.invariant_of-self-2
invariant_of-self-2 c =
    sound-node eq-value.it _ _ c.args.node refl c.in_ok-number.ensures.keys (itself c.args.node) c.self.invariant

pub returns-clause-grown : goal.returns-clause-grown
returns-clause-grown c =
    grown-node eq-value.it c.args.self.now _ c.args.node (ap (λ (t : NumberTables). t.names) c.self.view_is)
    (c.in_ok-number.ensures.keys ∙ ap (λ (t : NumberTables). insert_key eq-value.it t.nodes c.args.node) c.self.view_is)

pub returns-clause-sound : goal.returns-clause-sound
returns-clause-sound c = invariant_of-self-2 c
