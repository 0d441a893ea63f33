use Rattle.std.proofs.Common.{slice_get, ap, ◌∙◌}
use Rattle.tm_names.proofs.BodyScopes.{process_scope_at, task_scope_at}
use Rattle.tm_names.proofs.parts.site.slots_of.Goals as goal

pub returns-in-Process : goal.returns-in-Process
returns-in-Process c = λ t are.
    process_scope_at t c.args.scopes.now c.in-Process.index c.args.body c.nth.result c.in-Process.is are
    (c.nth.ensures ∙ ap (λ xs. slice_get xs c.in-Process.index) c.as_slice.ensures.value)

pub returns-in-Task : goal.returns-in-Task
returns-in-Task c = λ t are.
    task_scope_at t c.args.scopes.now c.in-Task.index c.args.body c.nth-in-Task.result c.in-Task.is are
    (c.nth-in-Task.ensures ∙ ap (λ xs. slice_get xs c.in-Task.index) c.as_slice-in-Task.ensures.value)
