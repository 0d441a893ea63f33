use Rattle.std.proofs.Common.{[], ap, ◌∙◌}
use Rattle.std.specs.Option.{option_copied, option_map, option_map_or}
use Rattle.tm_syntax.specs.Tree.{TaskTree, TemplateTree}
use Rattle.tm_syntax.specs.Tree.View.{expr_trees, task_tree}
use Rattle.tm_syntax.specs.Scopes.Pauses.{task_reached}
use Rattle.tm_syntax.specs.Faults.Mismatches.{call_faults, called_faults}
use Rattle.tm_scope.specs.Context.{context_of}
use Rattle.tm_scope.specs.Types.{ty_of}
use Rattle.tm_types.specs.Firsts.{first_of}
use Rattle.tm_types.proofs.ReachedTasks.{of_reached}
use Rattle.tm_types.proofs.mismatches.calls.valued_call_faults.Goals as goal

pub returns : goal.returns
returns c =
    let at = context_of c.args.at.now in
    let names = c.args.path.now in
    let task = option_map task_tree (option_copied c.task_of.result) in
    let reached = task_reached at.spec at.template names in
    let fault = λ (k : TaskTree). called_faults (option_map ty_of c.args.asked) names k.kind in
    c.earlier_place.ensures.joined (call_faults at names (expr_trees c.args.args.now))
    (option_map_or (λ (k : TemplateTree × TaskTree). fault k.1) reached [])
    c.call_faults-of_call.ensures
    (c.result_faults.ensures ∙ ap first_of (of_reached fault reached task c.task_of.ensures))
