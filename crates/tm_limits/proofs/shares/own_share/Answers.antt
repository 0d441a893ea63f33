use Rattle.std.proofs.Common.{map, ap, ◌∙◌}
use Rattle.std.specs.List.{enumerate_from}
use Rattle.tm_syntax.specs.Tree.View.{spec_tree, template_tree}
use Rattle.tm_limits.specs.declared.totals.Combination.{Combination}
use Rattle.tm_limits.specs.Amount.{capped}
use Rattle.tm_limits.specs.Shares.{combination_of, process_share, task_share, template_share}
use Rattle.tm_limits.specs.Totals.{combined, over}
use Rattle.tm_limits.proofs.shares.own_share.Goals as goal

pub returns : goal.returns
returns c =
    let spec = spec_tree c.args.scopes.now in
    let t = template_tree c.args.template.now in
    let q = c.args.quantity in
    let by = c.combination_of-combination.result in
    let alone = template_share spec q t in
    let processes = over (combination_of q) (map (process_share spec q t) (enumerate_from 0 t.processes)) in
    let tasks = over (combination_of q) (map (task_share spec q t) (enumerate_from 0 t.tasks)) in
    c.combined-2.ensures (combined by alone processes) tasks
    (c.combined.ensures alone processes c.template_share-alone.ensures c.processes_share-processes.ensures)
    c.tasks_share-tasks.ensures
    ∙ ap (λ (c : Combination). capped (combined c (combined c alone processes) tasks))
    c.combination_of-combination.ensures
