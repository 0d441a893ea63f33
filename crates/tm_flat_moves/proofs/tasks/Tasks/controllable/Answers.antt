use Rattle.std.proofs.Common.{◌≡◌, Bor, Some, sym, ap, ◌∙◌}
use Rattle.std.specs.Prelude.{slice_get}
use Rattle.std.specs.Option.{option_map}
use Rattle.tm_syntax.specs.declared.tree.TaskDef.{TaskDef}
use Rattle.tm_locations.proofs.TableCallees.{item-read}
use Rattle.tm_flat_moves.proofs.Controlling.{is_controllable}
use Rattle.tm_flat_moves.proofs.tasks.Tasks.controllable.Goals as goal

pub returns-clause-found : goal.returns-clause-found
returns-clause-found c =
    let d = c.args.self.now.design.now in
    let n = c.args.number in
    let item = c.in_ok-item.item.now in
    let listed : slice_get d.tasks.items n ≡ Some item =
    item-read d.tasks.items c.deref.result.now n (Some c.in_ok-item.item) c.deref.ensures.value
    c.in_ok-item.ensures.lookup in
    is_controllable d n item listed c.in_ok-index.field-0 c.in_ok-index.was c.in_ok-task.task.now
    (sym c.task_def.ensures ∙ ap (option_map (λ (task : Bor TaskDef). task.now)) c.in_ok-task.was)
