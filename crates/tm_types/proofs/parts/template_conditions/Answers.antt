use Rattle.std.proofs.Common.{[], ◌++◌, map, sym, ap, ◌∙◌}
use Rattle.std.proofs.lemmas.List.{map-append}
use Rattle.tm_syntax.specs.Tree.{NamedTree}
use Rattle.tm_syntax.specs.Tree.View.{named_tree, template_tree}
use Rattle.tm_syntax.specs.Scopes.Parts.{condition}
use Rattle.tm_names.specs.Asked.{all_asked}
use Rattle.tm_names.proofs.ListSteps.{two_more}
use Rattle.tm_types.specs.Inner.TextParts.{conditions_of}
use Rattle.tm_types.proofs.parts.template_conditions.Goals as goal

pub returns : goal.returns
returns c =
    let t = template_tree c.args.template.now in
    let one = all_asked c.push_conditions.new.asked.items in
    two_more [] (conditions_of t.goals) (conditions_of t.fairs) one (all_asked c.push_conditions-2.new.asked.items)
    (c.in-Ok.ensures
    ∙ ap (λ es. all_asked es ++ conditions_of (map named_tree c.as_slice.result.now)) c.new-asked.ensures.items
    ∙ ap (λ ns. conditions_of (map named_tree ns)) c.as_slice.ensures.value)
    (c.in-Ok-push_conditions.ensures
    ∙ ap (λ ns. one ++ conditions_of (map named_tree ns)) c.as_slice-2.ensures.value)
    ∙ sym (map-append (λ (n : NamedTree). condition n.expr) t.goals t.fairs)
