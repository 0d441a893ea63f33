use Rattle.std.proofs.Common.{slice_get, sym, ap, ◌∙◌}
use Rattle.std.specs.Option.{option_map}
use Rattle.tm_syntax.specs.declared.tree.Spec.{Spec}
use Rattle.tm_syntax.specs.Tree.View.{spec_tree}
use Rattle.tm_syntax.specs.Scopes.Declared as text
use Rattle.tm_names.specs.TextScopes.{AreTemplateScopes}
use Rattle.tm_names.proofs.Together.{each_at, each_there}
use Rattle.tm_names.proofs.names.text_names.TextNames.member_sort.Goals as goal

pub returns-in-Some : goal.returns-in-Some
returns-in-Some c = λ t is.
    let items = c.self.inside.scopes.now.templates.items in
    let are : AreTemplateScopes t c.in-Some.scopes.now =
    each_at (spec_tree c.self.inside.spec.now).templates items c.args.number t c.in-Some.scopes.now
    c.self.invariant.found.templates
    (ap (λ (u : Spec). slice_get (spec_tree u).templates c.args.number) c.self.view_is ∙ is)
    (ap (λ xs. slice_get xs c.args.number) (sym c.as_slice.ensures.value) ∙ sym c.in-Some.ensures) in
    c.found_sort.ensures
    ∙ ap (option_map (λ (d : text.Declared). d.sort)) (c.find.ensures ∙ are.members.finds c.args.name.now)

pub returns-in-None : goal.returns-in-None
returns-in-None c = λ t is.
    absurd (each_there (spec_tree c.self.inside.spec.now).templates c.self.inside.scopes.now.templates.items
    c.args.number t c.self.invariant.found.templates
    (ap (λ (u : Spec). slice_get (spec_tree u).templates c.args.number) c.self.view_is ∙ is)
    (ap (λ xs. slice_get xs c.args.number) (sym c.as_slice.ensures.value) ∙ sym c.in-None.ensures))
