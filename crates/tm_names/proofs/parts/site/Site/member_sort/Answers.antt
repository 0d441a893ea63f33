use Rattle.std.proofs.Common.{ap, ◌∙◌}
use Rattle.std.specs.Option.{option_map}
use Rattle.tm_syntax.specs.Tree.View.{template_tree}
use Rattle.tm_syntax.specs.Scopes.Declared as text
use Rattle.tm_scope.specs.Context.{BodyPlace}
use Rattle.tm_names.proofs.parts.site.Site.member_sort.Goals as goal

pub returns : goal.returns
returns c =
    c.found_sort.ensures
    ∙ ap (option_map (λ (d : text.Declared). d.sort))
    (c.find.ensures ∙ c.self.invariant.around.finds c.args.name.now)
    ∙ ap (λ (at : BodyPlace). text.sort_in (text.members (template_tree at.template)) c.args.name.now) c.self.view_is
