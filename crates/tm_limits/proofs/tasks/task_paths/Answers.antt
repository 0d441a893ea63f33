use Rattle.std.proofs.Common.{◌≡◌, ◌<◌, ℕ, Some, length, get_or, slice_get, sym, subst, arith}
use Rattle.std.proofs.lemmas.Option.{slice_get-get_or, slice_get_within}
use Rattle.tm_syntax.specs.declared.member.Member.{Member}
use Rattle.tm_syntax.specs.Tree.View.{spec_tree}
use Rattle.tm_limits.specs.TaskBodies.{HasPaths}
use Rattle.tm_limits.proofs.TaskTables.{no_paths, paths_more}
use Rattle.tm_limits.proofs.tasks.task_paths.Goals as goal

pub loop-task-init : goal.loop-task-init
loop-task-init c =
    let s = c.args.scopes.now in
    subst (HasPaths (spec_tree s) c.args.order.now 0) (sym c.new-paths.ensures.empty)
    (no_paths s c.args.order.now c.requires.ordered c.requires.short)

pub loop-task-preserved : goal.loop-task-preserved
loop-task-preserved c =
    let s = c.args.scopes.now in
    let order = c.args.order.now in
    let i : ℕ = c.loop-task.task-index in
    let m : Member = get_or order i (record { template = 0; index = 0 }) in
    let within : i < length order = omega arith in
    let at : slice_get order i ≡ Some m = slice_get-get_or order i (record { template = 0; index = 0 }) within in
    paths_more s order c.requires.ordered c.requires.short c.loop-task.paths.entries i (omega arith)
    c.loop-task.invariant m c.paths_of_task-found.result c.insert.new.self.entries at c.paths_of_task-found.ensures
    c.in_ok-insert.ensures.updates.0

pub returns : goal.returns
returns c = record {
  known = c.loop-task.invariant.known;
  best = c.loop-task.invariant.best;
  so_far = λ k m less at.
      c.loop-task.invariant.so_far k m (let within = slice_get_within c.args.order.now k m at in omega arith) at;
}
