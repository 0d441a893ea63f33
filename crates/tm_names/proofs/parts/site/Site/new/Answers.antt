use Rattle.std.proofs.Common.{◌≡◌, Some, slice_get, sym, ap, ◌∙◌}
use Rattle.std.specs.Option.{option_map}
use Rattle.std.proofs.lemmas.Option.{slice_get-map}
use Rattle.tm_syntax.specs.declared.tree.Spec.{Spec}
use Rattle.tm_syntax.specs.Tree.View.{template_tree}
use Rattle.tm_names.specs.TextScopes.{AreTemplateScopes}
use Rattle.tm_names.proofs.parts.site.Site.new.Goals as goal

pub invariant_of-result : goal.invariant_of-result
invariant_of-result c =
    let t = template_tree c.body_scope-types.result.template in
    let there : slice_get c.args.names.now.templates.items c.args.template ≡ Some c.body_scope-types.result.template =
    ap (λ (u : Spec). slice_get u.templates.items c.args.template) (sym c.tables.ensures)
    ∙ c.body_scope-types.ensures.template in
    let are : AreTemplateScopes t c.template_scopes-scopes.result.now =
    c.template_scopes-scopes.ensures t (slice_get-map template_tree c.args.names.now.templates.items c.args.template
    ∙ ap (option_map template_tree) there) in
    record {
      same = c.body_scope-types.ensures.spec ∙ c.tables.ensures;
      is_there = there;
      within = c.body_scope-types.ensures.body;
      around = are.members;
      inside = c.slots_of-slots.ensures t are;
    }
