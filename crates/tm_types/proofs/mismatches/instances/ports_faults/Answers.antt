use Rattle.std.proofs.Common.{arith}
use Rattle.tm_syntax.specs.declared.tree.Ident.{Ident}
use Rattle.tm_syntax.specs.declared.tree.Port.{Port}
use Rattle.tm_syntax.specs.Tree.View.{spec_tree}
use Rattle.tm_syntax.specs.Scopes.Declared.{text_sort}
use Rattle.tm_syntax.specs.Faults.Mismatches.{is_template, misnamed}
use Rattle.tm_types.proofs.FoundPlaces.{found_more, found_whole}
use Rattle.tm_types.proofs.mismatches.instances.ports_faults.Goals as goal

pub loop-port-preserved : goal.loop-port-preserved
loop-port-preserved c =
    found_more (λ (n : Ident). misnamed is_template (text_sort (spec_tree c.args.names.now) n.text) n)
    (λ (p : Port). p.template) c.args.ports.now c.loop-port.port-index c.port-item.result (omega arith) c.port-item.is
    c.port_faults.ensures c.earlier_place-first.ensures.earlier c.loop-port.invariant

pub returns : goal.returns
returns c =
    found_whole (λ (n : Ident). misnamed is_template (text_sort (spec_tree c.args.names.now) n.text) n)
    (λ (p : Port). p.template) c.args.ports.now c.loop-port.port-index (omega arith) c.loop-port.invariant
