use Rattle.std.proofs.Common.{ap, ◌∙◌}
use Rattle.tm_syntax.specs.Tree.View.{template_tree}
use Rattle.tm_syntax.specs.Scopes.Calls.{known_template}
use Rattle.tm_scope.proofs.scopes.template_scope.TemplateScope.known_template.Goals as goal

pub returns : goal.returns
returns c =
    c.known_template.ensures
    ∙ ap (λ t. known_template (template_tree t) c.args.name.now) c.self.view_is
