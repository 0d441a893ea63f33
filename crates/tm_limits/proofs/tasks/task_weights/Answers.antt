use Rattle.std.proofs.Common.{◌≡◌, ◌<◌, ℕ, Some, length, get_or, slice_get, arith}
use Rattle.std.proofs.lemmas.Option.{slice_get-get_or, slice_get_within}
use Rattle.tm_syntax.specs.declared.member.Member.{Member}
use Rattle.tm_limits.proofs.TaskTables.{weights_more}
use Rattle.tm_limits.proofs.tasks.task_weights.Goals as goal

pub loop-task-init : goal.loop-task-init
loop-task-init c = λ k m less. absurd (omega arith)

pub loop-task-preserved : goal.loop-task-preserved
loop-task-preserved c =
    let s = c.args.scopes.now in
    let order = c.args.order.now in
    let i : ℕ = c.loop-task.task-index in
    let m : Member = get_or order i (record { template = 0; index = 0 }) in
    let within : i < length order = omega arith in
    let at : slice_get order i ≡ Some m = slice_get-get_or order i (record { template = 0; index = 0 }) within in
    weights_more s order c.requires.ordered c.requires.short c.args.weight c.loop-task.weights.entries i (omega arith)
    c.loop-task.invariant m c.task_weight-total.result c.insert.new.self.entries at c.task_weight-total.ensures
    c.in_ok-insert.ensures.updates.0

pub returns : goal.returns
returns c = λ k m less at.
    let within = slice_get_within c.args.order.now k m at in
    c.loop-task.invariant k m (omega arith) at
