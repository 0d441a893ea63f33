use Rattle.std.proofs.Common.{position, ap, ◌∙◌}
use Rattle.tm_syntax.specs.Scopes.Names.{is_spelled}
use Rattle.tm_syntax.specs.Tree.View.{template_tree}
use Rattle.tm_scope.proofs.scopes.template_scope.TemplateScope.task_index.Goals as goal

pub returns : goal.returns
returns c =
    c.task_index.ensures
    ∙ ap (λ t. position (λ x. is_spelled c.args.name.now x.name) (template_tree t).tasks)
    (c.self.invariant.0 ∙ c.self.view_is)
