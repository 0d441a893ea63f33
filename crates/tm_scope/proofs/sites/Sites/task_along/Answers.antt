use Rattle.std.proofs.Common.{◌≡◌, Some, position, slice_get, sym, ap, ◌∙◌}
use Rattle.std.specs.Option.{option_and_then, option_copied}
use Rattle.tm_syntax.specs.Scopes.Names.{is_spelled}
use Rattle.tm_syntax.specs.Tree.View.{template_tree}
use Rattle.tm_scope.specs.Instances.{InstanceTables, task_called_at}
use Rattle.tm_scope.proofs.CalledTasks.{called-at, called-missing, called-nowhere}
use Rattle.tm_scope.proofs.SiteSteps.{no_instance}
use Rattle.tm_scope.proofs.sites.Sites.task_along.Goals as goal

pub returns-in_err-instance : goal.returns-in_err-instance
returns-in_err-instance c = λ d over body.
    ap (option_and_then (task_called_at d)) c.from_residual.ensures
    ∙ sym (called-nowhere c.args.self.now d over c.args.path.now c.args.from c.number_along.result
    c.number_along.ensures body c.in_err-instance.was)

pub returns-in_err-node : goal.returns-in_err-node
returns-in_err-node c = λ d over body.
    ap (option_and_then (task_called_at d)) c.from_residual-in_err-node.ensures
    ∙ sym (called-missing c.args.self.now d over c.args.path.now c.args.from c.number_along.result
    c.number_along.ensures body c.in_ok-instance.instance c.in_ok-instance.was
    (no_instance c.args.self.now c.in_ok-instance.instance
    (sym c.instance.ensures ∙ ap option_copied c.in_err-node.was)))

pub returns-in_err-index : goal.returns-in_err-index
returns-in_err-index c = λ d over body.
    let x = c.args.self.now in
    let node = c.in_ok-node.node.now in
    let at : slice_get x.instances c.in_ok-instance.instance ≡ Some node =
    sym c.instance.ensures ∙ ap option_copied c.in_ok-node.was in
    ap (option_and_then (task_called_at d)) c.from_residual-in_err-index.ensures
    ∙ ap (option_and_then (λ k. task_called_at d (record { instance = c.in_ok-instance.instance; index = k })))
    (sym c.in_err-index.was)
    ∙ called-at x d over c.args.path.now c.args.from c.number_along.result c.number_along.ensures body
    c.in_ok-instance.instance node c.task_index_at.result c.in_ok-instance.was at
    (c.task_index_at.ensures
    ∙ ap (λ (v : InstanceTables). option_and_then (λ t. position (λ task. is_spelled c.last_name.result.now task.name)
    (template_tree t).tasks) (slice_get v.spec.templates.items node.template)) c.self.view_is
    ∙ ap (λ name. option_and_then (λ t. position (λ task. is_spelled name task.name) (template_tree t).tasks)
    (slice_get x.spec.templates.items node.template)) c.last_name.ensures)

pub returns : goal.returns
returns c = λ d over body.
    let x = c.args.self.now in
    let node = c.in_ok-node.node.now in
    let at : slice_get x.instances c.in_ok-instance.instance ≡ Some node =
    sym c.instance.ensures ∙ ap option_copied c.in_ok-node.was in
    ap (option_and_then (λ k. task_called_at d (record { instance = c.in_ok-instance.instance; index = k })))
    (sym c.in_ok-index.was)
    ∙ called-at x d over c.args.path.now c.args.from c.number_along.result c.number_along.ensures body
    c.in_ok-instance.instance node c.task_index_at.result c.in_ok-instance.was at
    (c.task_index_at.ensures
    ∙ ap (λ (v : InstanceTables). option_and_then (λ t. position (λ task. is_spelled c.last_name.result.now task.name)
    (template_tree t).tasks) (slice_get v.spec.templates.items node.template)) c.self.view_is
    ∙ ap (λ name. option_and_then (λ t. position (λ task. is_spelled name task.name) (template_tree t).tasks)
    (slice_get x.spec.templates.items node.template)) c.last_name.ensures)
