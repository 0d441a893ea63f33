use Rattle.std.proofs.Common.{◌≡◌, ℕ, ◌<◌, ◌≤◌, List, length, get_or, map, sym, ap, ◌∙◌, arith}
use Rattle.std.specs.List.{enumerate_from}
use Rattle.std.specs.Option.{option_map}
use Rattle.std.proofs.lemmas.List.Folds.{flat_map-map}
use Rattle.tm_syntax.specs.declared.tree.TaskDef.{TaskDef}
use Rattle.tm_syntax.specs.Tree.{TaskTree}
use Rattle.tm_syntax.specs.Tree.View.{task_tree}
use Rattle.tm_syntax.specs.Faults.Marks.{first_mark}
use Rattle.tm_types.specs.Inner.Looping.{looping_mark, task_mark}
use Rattle.tm_names.specs.ScopeNames.{mark_of}
use Rattle.tm_types.proofs.NumberedParts.{first_from, numbered_all, numbered_more}
use Rattle.tm_types.proofs.cycles.first_in_template.Goals as goal

pub loop-index-preserved : goal.loop-index-preserved
loop-index-preserved c =
    let tasks : List TaskDef = c.args.template.now.tasks.items in
    let faults = λ (k : ℕ × TaskTree). looping_mark c.args.looping.now (task_mark c.args.number k) in
    let same : c.as_slice-task-items.result.now ≡ tasks = c.as_slice-task-items.ensures.value in
    let within : c.loop-index.index < length tasks = omega (arith, ap length same) in
    let is : c.task-item.result ≡ get_or tasks c.loop-index.index c.task-item.result =
    c.task-item.is ∙ ap (λ ts. get_or ts c.loop-index.index c.task-item.result) same in
    numbered_more task_tree faults tasks c.loop-index.index c.task-item.result (option_map mark_of c.loop-index.first)
    (option_map mark_of c.looping_name.result) (option_map mark_of c.earlier_mark-first.result)
    (first_from task_tree faults tasks 0) within is c.looping_name.ensures c.earlier_mark-first.ensures
    c.loop-index.invariant

pub returns : goal.returns
returns c =
    let tasks : List TaskDef = c.args.template.now.tasks.items in
    let faults = λ (k : ℕ × TaskTree). looping_mark c.args.looping.now (task_mark c.args.number k) in
    let past : length tasks ≤ c.loop-index.index = omega (arith, ap length c.as_slice-task-items.ensures.value) in
    numbered_all task_tree faults tasks c.loop-index.index (option_map mark_of c.loop-index.first)
    (first_from task_tree faults tasks 0) past c.loop-index.invariant
    ∙ ap first_mark (sym (flat_map-map (looping_mark c.args.looping.now) (task_mark c.args.number)
    (enumerate_from 0 (map task_tree tasks))))
