use Rattle.std.proofs.Common.{[], length, sym, ap, ◌∙◌}
use Rattle.std.specs.Option.{option_copied, option_map, option_map_or}
use Rattle.std.proofs.lemmas.List.{length-map}
use Rattle.tm_syntax.specs.Tree.{TaskTree, TemplateTree}
use Rattle.tm_syntax.specs.Tree.View.{expr_tree, expr_trees, task_tree}
use Rattle.tm_syntax.specs.Scopes.Declared.{meaning}
use Rattle.tm_syntax.specs.Scopes.Pauses.{task_reached}
use Rattle.tm_syntax.specs.Faults.Marks.{place_unless}
use Rattle.tm_syntax.specs.Faults.Mismatches.{call_fits}
use Rattle.tm_syntax.specs.Faults.Operands.{is_called, path_place, wrong_sort}
use Rattle.tm_scope.specs.Context.{context_of}
use Rattle.tm_types.specs.Firsts.{first_of}
use Rattle.tm_types.specs.Inner.TaskCalls.{count_faults}
use Rattle.tm_types.proofs.ReachedTasks.{of_reached}
use Rattle.tm_types.proofs.mismatches.calls.call_faults.Goals as goal

pub returns : goal.returns
returns c =
    let at = context_of c.args.at.now in
    let names = c.args.path.now in
    let es = c.args.args.now in
    let task = option_map task_tree (option_copied c.task_of.result) in
    let reached = task_reached at.spec at.template names in
    let fault = λ (k : TaskTree). place_unless (call_fits k (length (expr_trees es))) (path_place names) in
    c.earlier_place.ensures.joined (wrong_sort is_called (meaning at names))
    (option_map_or (λ (k : TemplateTree × TaskTree). fault k.1) reached [])
    c.wrong_path-of_path.ensures
    (c.count_faults.ensures
    ∙ ap (λ n. first_of (count_faults task names n)) (sym (length-map es expr_tree))
    ∙ ap first_of (of_reached fault reached task c.task_of.ensures))
