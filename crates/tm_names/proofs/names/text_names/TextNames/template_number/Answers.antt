use Rattle.std.proofs.Common.{◌≡◌, ◌<◌, ◌&&◌, is_some, length, slice_get, subst, sym, ap, ◌∙◌}
use Rattle.std.specs.Prelude.{IfSome}
use Rattle.std.specs.Option.{option_and_then}
use Rattle.tm_syntax.specs.declared.tree.Spec.{Spec}
use Rattle.tm_syntax.specs.declared.tree.Template.{Template}
use Rattle.tm_syntax.specs.Tree.View.{spec_tree}
use Rattle.tm_syntax.specs.Scopes.Names.{is_spelled}
use Rattle.tm_syntax.specs.Scopes.Declared.{template_in, text_sort}
use Rattle.tm_names.specs.Inner.TemplateNumbers.{stands_first}
use Rattle.tm_names.proofs.FirstTemplates.{number_found, number_within}
use Rattle.tm_names.proofs.names.text_names.TextNames.template_number.Goals as goal

pub returns : goal.returns
returns c =
    let s : Spec = c.self.inside.spec.now in
    let name = c.args.name.now in
    let found = c.find.ensures ∙ c.self.invariant.numbered name in
    record {
      number =
          subst (λ (u : Spec). option_and_then (slice_get (spec_tree u).templates) c.number_if.result
          ≡ template_in (text_sort (spec_tree u) name)) c.self.view_is
          (ap (option_and_then (slice_get (spec_tree s).templates)) c.number_if.ensures
          ∙ number_found s name c.is_template.result c.find.result
          (c.is_template.ensures ∙ ap (λ o. is_some (template_in o)) (c.text_sort.ensures
          ∙ ap (λ (u : Spec). text_sort (spec_tree u) name) (sym c.self.view_is))) found);
      within =
          subst (λ (u : Spec). IfSome c.number_if.result (λ k. k < length u.templates.items)) c.self.view_is
          (subst (λ o. IfSome o (λ k. k < length s.templates.items)) (sym c.number_if.ensures)
          (number_within (λ (t : Template). is_spelled name t.name && stands_first (spec_tree s) t.name)
          s.templates.items
          c.is_template.result c.find.result found));
    }
