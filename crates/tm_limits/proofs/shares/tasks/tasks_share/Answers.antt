use Rattle.std.proofs.Common.{◌<◌, ℕ, List, Some, take, length, map, slice_get, sym, ap, ◌∙◌, arith}
use Rattle.std.specs.List.{enumerate_from}
use Rattle.std.proofs.lemmas.List.{take_all}
use Rattle.std.proofs.lemmas.Option.{slice_get-get_or, slice_get_within}
use Rattle.tm_syntax.specs.declared.tree.TaskDef.{TaskDef}
use Rattle.tm_syntax.specs.Tree.View.{task_tree, spec_tree, template_tree}
use Rattle.tm_limits.specs.declared.totals.Combination.{Combination}
use Rattle.tm_limits.specs.Amount.{capped}
use Rattle.tm_limits.specs.Shares.{combination_of, task_share}
use Rattle.tm_limits.specs.Totals.{combined, over}
use Rattle.tm_limits.proofs.Sums.{over_more}
use Rattle.tm_limits.proofs.shares.tasks.tasks_share.Goals as goal

pub loop-index-preserved : goal.loop-index-preserved
loop-index-preserved c =
    let spec = spec_tree c.args.scopes.now in
    let t = template_tree c.args.template.now in
    let q = c.args.quantity in
    let tasks = c.as_slice-tasks.result.now in
    let i : ℕ = c.loop-index.index in
    let x = c.index-tasks-index.result in
    let within : i < length tasks = omega arith in
    over_more (combination_of q) (task_share spec q t) task_tree tasks i x c.combined-share.result within
    c.index-tasks-index.is
    (c.combined-share.ensures _ (task_share spec q t (i, task_tree x)) c.loop-index.invariant
    (c.task_share-own.ensures c.args.template.now c.requires.numbered
    (ap (λ (xs : List TaskDef). slice_get xs i) (sym c.as_slice-tasks.ensures.value)
    ∙ slice_get-get_or tasks i x within ∙ ap Some (sym c.index-tasks-index.is)))
    ∙ ap (λ (by : Combination). capped (combined by (over (combination_of q) (map (task_share spec q t)
    (enumerate_from 0 (map task_tree (take i tasks))))) (task_share spec q t (i, task_tree x))))
    c.combination_of.ensures)

pub returns : goal.returns
returns c =
    let spec = spec_tree c.args.scopes.now in
    let t = template_tree c.args.template.now in
    let q = c.args.quantity in
    c.loop-index.invariant
    ∙ ap (λ xs. capped (over (combination_of q) (map (task_share spec q t)
    (enumerate_from 0 (map task_tree xs)))))
    (take_all c.loop-index.index c.as_slice-tasks.result.now (omega arith) ∙ c.as_slice-tasks.ensures.value)

pub task_share-own-requires : goal.task_share-own-requires
task_share-own-requires c = record {
  counted = c.requires.counted;
  within = slice_get_within c.args.scopes.now.templates.items c.args.number c.args.template.now c.requires.numbered;
}
