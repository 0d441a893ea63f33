use Rattle.std.proofs.Common.{◌+◌, ◌++◌, ◌∷◌, ℕ, [], map, refl, arith}
use Rattle.tm_syntax.specs.Tree.{TaskTree}
use Rattle.tm_syntax.specs.Tree.View.{task_tree}
use Rattle.tm_syntax.specs.Scopes.Pauses.{is_controllable}
use Rattle.tm_inst.specs.Inner.Listed.{items_from}
use Rattle.tm_inst.proofs.ItemSteps.{one_before}
use Rattle.tm_inst.proofs.Listing.{listed_all, listed_more}
use Rattle.tm_inst.proofs.items.push_tasks.Goals as goal

pub loop-index-preserved : goal.loop-index-preserved
loop-index-preserved c =
    let f = items_from (λ (k : TaskTree). is_controllable k.kind)
    (λ (k : TaskTree). k.name) c.args.number c.args.base.now in
    let i : ℕ = c.loop-index.index in
    listed_more (λ k xs. f k (map task_tree xs)) (λ k x. f k (task_tree x ∷ []))
    (λ k x xs. one_before _ (f (k + 1) (map task_tree xs))) c.args.tasks.now i
    c.index-tasks-index.result c.loop-index.items.items c.push_task.new.items.items
    (c.args.items.now.items ++ f 0 (map task_tree c.args.tasks.now)) (omega arith) c.index-tasks-index.is
    c.in_ok-push_task.ensures c.loop-index.invariant

pub returns : goal.returns
returns c =
    let f = items_from (λ (k : TaskTree). is_controllable k.kind)
    (λ (k : TaskTree). k.name) c.args.number c.args.base.now in
    listed_all (λ k xs. f k (map task_tree xs)) (λ k x. f k (task_tree x ∷ []))
    (λ k x xs. one_before _ (f (k + 1) (map task_tree xs))) c.args.tasks.now c.loop-index.index
    c.loop-index.items.items (c.args.items.now.items ++ f 0 (map task_tree c.args.tasks.now)) refl (omega arith)
    c.loop-index.invariant
