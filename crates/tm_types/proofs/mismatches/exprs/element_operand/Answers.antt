use Rattle.std.proofs.Common.{◌≡◌, List, ap, ◌∙◌}
use Rattle.tm_base.specs.declared.place.Place.{Place}
use Rattle.tm_syntax.specs.Tree.{element}
use Rattle.tm_syntax.specs.Tree.View.{expr_tree}
use Rattle.tm_syntax.specs.Scopes.Types.{named_type}
use Rattle.tm_syntax.specs.Faults.Operands as text
use Rattle.tm_scope.specs.Context.{context_of}
use Rattle.tm_types.specs.Firsts.{first_of}
use Rattle.tm_types.proofs.mismatches.exprs.element_operand.Goals as goal

pub returns : goal.returns
returns c =
    let at = context_of c.args.at.now in
    let faults : List Place = text.expr_faults at (element c.args.path.now.names.items (expr_tree c.args.index.now)) in
    let first : c.element_faults-first.result ≡ first_of faults =
    c.element_faults-first.ensures c.expr_faults.ensures in
    record {
      first = first;
      found = c.of-found.ensures faults first
          ∙ ap (text.finding faults) (c.named_type.ensures
          ∙ (λ i. named_type (context_of (c.types.ensures i)) (c.as_slice.ensures.value i)));
    }
