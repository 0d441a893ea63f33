use Rattle.std.proofs.Common.{◌<◌, ℕ, length, map, ap, ◌∙◌, arith}
use Rattle.std.specs.List.{flat_map}
use Rattle.std.proofs.lemmas.List.{take_all}
use Rattle.tm_limits.proofs.LongNames.{long_more}
use Rattle.tm_limits.specs.LongNames.{first_long, task_types}
use Rattle.tm_syntax.specs.Tree.View.{task_tree}
use Rattle.tm_limits.proofs.names.templates.tasks_types.Goals as goal

pub loop-task-preserved : goal.loop-task-preserved
loop-task-preserved c =
    let xs = c.args.tasks.now in
    let i : ℕ = c.loop-task.task-index in
    let x = c.task-item.result in
    let within : i < length xs = omega arith in
    long_more task_types task_tree xs i x _ _ _ within c.task-item.is
    (c.task_types.ensures) c.earlier-first.ensures c.loop-task.invariant

pub returns : goal.returns
returns c =
    c.loop-task.invariant
    ∙ ap (λ xs. first_long (flat_map task_types (map task_tree xs)))
    (take_all c.loop-task.task-index c.args.tasks.now (omega arith))
