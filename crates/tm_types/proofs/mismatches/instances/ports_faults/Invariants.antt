use Rattle.std.proofs.Common.{◌≡◌}
use Rattle.tm_syntax.specs.declared.tree.Ident.{Ident}
use Rattle.tm_syntax.specs.declared.tree.Port.{Port}
use Rattle.tm_syntax.specs.Tree.View.{spec_tree}
use Rattle.tm_syntax.specs.Scopes.Declared.{text_sort}
use Rattle.tm_syntax.specs.Faults.Mismatches.{is_template, misnamed}
use Rattle.tm_types.proofs.FoundPlaces.{found_before}
use Rattle.tm_types.proofs.mismatches.instances.ports_faults.Given as goal

abbrev pub invariant-loop-port : goal.invariant-loop-port
invariant-loop-port l = l.first
    ≡ found_before (λ (n : Ident). misnamed is_template (text_sort (spec_tree l.names) n.text) n)
    (λ (p : Port). p.template) l.ports l.port-index
