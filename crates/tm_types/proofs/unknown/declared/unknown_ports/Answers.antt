use Rattle.std.proofs.Common.{arith}
use Rattle.tm_syntax.specs.declared.tree.Port.{Port}
use Rattle.tm_syntax.specs.Tree.View.{spec_tree}
use Rattle.tm_syntax.specs.Scopes.Declared.{text_sort}
use Rattle.tm_syntax.specs.Faults.Names.{undeclared}
use Rattle.tm_types.proofs.FoundNames.{bare_all, found_more}
use Rattle.tm_types.proofs.unknown.declared.unknown_ports.Goals as goal

pub loop-port-preserved : goal.loop-port-preserved
loop-port-preserved c =
    found_more (λ (p : Port). undeclared (text_sort (spec_tree c.args.names.now) p.template.text) p.template) (λ p. p)
    c.args.ports.now c.loop-port.port-index c.port-item.result (omega arith) c.port-item.is c.unknown_in_text.ensures
    c.earlier_mark-first.ensures c.loop-port.invariant

pub returns : goal.returns
returns c =
    bare_all (λ (p : Port). undeclared (text_sort (spec_tree c.args.names.now) p.template.text) p.template)
    c.args.ports.now c.loop-port.port-index (omega arith) c.loop-port.invariant
