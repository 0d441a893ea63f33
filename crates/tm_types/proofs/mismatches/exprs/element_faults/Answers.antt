use Rattle.std.proofs.Common.{List, ap, ◌∙◌}
use Rattle.tm_base.specs.declared.place.Place.{Place}
use Rattle.tm_syntax.specs.Tree.View.{expr_tree}
use Rattle.tm_syntax.specs.Scopes.Declared.{meaning}
use Rattle.tm_syntax.specs.Scopes.Types.{own_type}
use Rattle.tm_syntax.specs.Faults.Operands as text
use Rattle.tm_scope.specs.Context.{context_of}
use Rattle.tm_types.specs.Firsts.{first_of}
use Rattle.tm_types.proofs.mismatches.exprs.element_faults.Goals as goal

pub returns : goal.returns
returns c = λ is.
    let at = context_of c.args.at.now in
    let names = c.args.path.now.names.items in
    let e = expr_tree c.args.index.now in
    let within : List Place = text.expr_faults at e in
    c.earlier_place.ensures.joined (text.wrong_sort text.is_indexed (meaning at names))
    (text.index_faults at.body e within (own_type at e))
    (c.wrong_path-of_path.ensures
    ∙ ap (λ path. first_of (text.wrong_sort text.is_indexed (meaning at path))) c.as_slice.ensures.value)
    (c.index_faults.ensures within (own_type at e) (c.operand.ensures within is))
