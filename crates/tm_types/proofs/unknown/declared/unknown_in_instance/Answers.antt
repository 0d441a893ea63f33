use Rattle.std.proofs.Common.{List, ap, ◌∙◌}
use Rattle.std.specs.List.{flat_map}
use Rattle.tm_syntax.specs.declared.tree.Ident.{Ident}
use Rattle.tm_syntax.specs.declared.tree.Spec.{Spec}
use Rattle.tm_syntax.specs.Tree.View.{spec_tree}
use Rattle.tm_syntax.specs.Scopes.Declared.{members, sort_in, text_sort}
use Rattle.tm_syntax.specs.Faults.Marks.{first_mark}
use Rattle.tm_syntax.specs.Faults.Names.{undeclared}
use Rattle.tm_scope.specs.Context.{context_of}
use Rattle.tm_types.proofs.unknown.declared.unknown_in_instance.Goals as goal

pub returns : goal.returns
returns c =
    let i = c.args.instance.now in
    let at = context_of c.args.site.now in
    c.earlier_name.ensures _ _
    (c.unknown_in_text-of_template.ensures
    ∙ ap (λ (s : Spec). first_mark (undeclared (text_sort (spec_tree s) i.template.text) i.template)) c.names.ensures)
    (c.unknown_args.ensures
    ∙ ap (λ (xs : List Ident). first_mark (flat_map (λ a. undeclared (sort_in (members at.template) a.text) a) xs))
    c.as_slice.ensures.value)
