use Rattle.std.proofs.Common.{◌<◌, ◌∷◌, ◌++◌, [], ℕ, length, map, ap, ◌∙◌, arith}
use Rattle.std.specs.List.{flat_map}
use Rattle.std.proofs.lemmas.List.{take_all}
use Rattle.std.proofs.lemmas.List.Concat.{flat_map_single}
use Rattle.tm_limits.proofs.LongNames.{long_joined, long_more}
use Rattle.tm_limits.specs.LongNames.{first_long}
use Rattle.tm_syntax.specs.Tree.{LocalTree, TaskTree}
use Rattle.tm_syntax.specs.Tree.View.{local_tree, task_tree}
use Rattle.tm_syntax.specs.declared.tree.Param.{Param}
use Rattle.tm_limits.proofs.names.templates.tasks_declared.Goals as goal

pub loop-task-preserved : goal.loop-task-preserved
loop-task-preserved c =
    let xs = c.args.tasks.now in
    let i : ℕ = c.loop-task.task-index in
    let x = c.task-item.result in
    let within : i < length xs = omega arith in
    long_more (λ (k : TaskTree). k.name ∷ map (λ (p : Param). p.name) k.params ++ map
    (λ (l : LocalTree). l.name) k.body.locals) task_tree xs i x _ _ _ within c.task-item.is
    (long_joined _ _ _ (x.name ∷ map (λ (p : Param). p.name) x.params.items)
    (map (λ (l : LocalTree). l.name) (map local_tree x.body.locals.items)) c.earlier-own.ensures
    (long_joined _ _ _ (x.name ∷ []) (map (λ (p : Param). p.name) x.params.items) c.earlier-head.ensures c.long.ensures
    (c.params_declared.ensures ∙ ap (λ ps. first_long (flat_map (λ (p : Param). p.name ∷ []) ps))
    c.as_slice.ensures.value
    ∙ ap first_long (flat_map_single (λ (p : Param). p.name) x.params.items)))
    (c.locals_declared.ensures
    ∙ ap (λ ls. first_long (flat_map (λ (l : LocalTree). l.name ∷ []) (map local_tree ls)))
    c.as_slice-in-loop-task.ensures.value
    ∙ ap first_long (flat_map_single (λ (l : LocalTree). l.name)
    (map local_tree x.body.locals.items)))) c.earlier-first.ensures c.loop-task.invariant

pub returns : goal.returns
returns c =
    c.loop-task.invariant
    ∙ ap (λ xs. first_long (flat_map (λ (k : TaskTree). k.name ∷ map (λ (p : Param). p.name) k.params ++ map
    (λ (l : LocalTree). l.name) k.body.locals) (map task_tree xs)))
    (take_all c.loop-task.task-index c.args.tasks.now (omega arith))
