use Rattle.std.proofs.Common.{◌≡◌, Bor, Option, None, Some, sym, ap, ◌∙◌, subst}
use Rattle.std.specs.Prelude.{IfNone, slice_get}
use Rattle.std.specs.Option.{option_map}
use Rattle.tm_syntax.specs.declared.design.Design.{Design}
use Rattle.tm_syntax.specs.declared.tree.TaskDef.{TaskDef}
use Rattle.tm_scope.specs.declared.cells.site_body.SiteBody.{SiteBody}
use Rattle.tm_scope.specs.declared.context.BodyName.TheVariants.{Task}
use Rattle.tm_locations.proofs.TableCallees.{item-read}
use Rattle.tm_syntax.specs.Design.Scope.{site}
use Rattle.tm_syntax.specs.Design.View.{design_tree}
use Rattle.tm_sem.specs.Step.{task_of}
use Rattle.tm_design.specs.Parameters.{task_at}
use Rattle.tm_plain_bodies.specs.Frames.{IsFrame}
use Rattle.tm_plain_bodies.specs.Tables.{body_of}
use Rattle.tm_plain.specs.declared.machine.tasks.DriverTask.{DriverTask}
use Rattle.tm_plain.specs.Machine.{IsRunnable}
use Rattle.tm_plain.proofs.DriverTasks.{is_driver_task, without_frame, without_index, without_item, without_task}
use Rattle.tm_plain.proofs.Fitness.{calls_are_sized, typed_cells}
use Rattle.tm_plain.proofs.machine.Machine.controllable.Goals as goal

pub returns-in-Some-clause-found : goal.returns-in-Some-clause-found
returns-in-Some-clause-found c =
    let d = c.args.self.now in
    let n = c.args.number in
    let item = c.in_ok-item.item.now in
    let k = c.in_ok-index.field-0 in
    let at : SiteBody = record { instance = item.instance; body = Task k } in
    let listed : slice_get d.tasks.items n ≡ Some item =
    subst (λ (d : Design). slice_get d.tasks.items n ≡ Some item) c.self.view_is
    (item-read c.self.inside.design.now.tasks.items c.deref.result.now n (Some c.in_ok-item.item)
    c.deref.ensures.value c.in_ok-item.ensures.lookup) in
    let runnable : IsRunnable d = subst IsRunnable c.self.view_is c.self.invariant.1 in
    let frame : IsFrame d at c.in-Some.frame =
    subst (λ (d : Design). IsFrame d at c.in-Some.frame) (c.self.invariant.0 ∙ c.self.view_is)
    c.in-Some.ensures.found in
    let stands : task_at (body_of d at) ≡ Some c.in_ok-task.task.now =
    subst (λ (d : Design). task_at (body_of d at) ≡ Some c.in_ok-task.task.now) c.self.view_is
    (sym c.task_def.ensures ∙ ap (option_map (λ (task : Bor TaskDef). task.now)) c.in_ok-task.was) in
    is_driver_task d n item listed k c.in_ok-index.was (typed_cells d runnable) (calls_are_sized d runnable)
    c.in-Some.frame c.in_ok-task.task.now stands frame

pub returns-in_err-item-clause-none : goal.returns-in_err-item-clause-none
returns-in_err-item-clause-none c =
    let own = c.self.inside.design.now in
    let n = c.args.number in
    let none = item-read own.tasks.items c.deref.result.now n None c.deref.ensures.value c.in_err-item.ensures.lookup in
    subst (λ (r : Option DriverTask). IfNone r (task_of (design_tree c.args.self.now) n ≡ None))
    (sym c.from_residual.ensures)
    (subst (λ (d : Design). task_of (design_tree d) n ≡ None) c.self.view_is (without_item own n none))

pub returns-in_err-index-clause-none : goal.returns-in_err-index-clause-none
returns-in_err-index-clause-none c =
    let own = c.self.inside.design.now in
    let n = c.args.number in
    let listed = item-read own.tasks.items c.deref.result.now n (Some c.in_ok-item.item) c.deref.ensures.value
    c.in_ok-item.ensures.lookup in
    subst (λ (r : Option DriverTask). IfNone r (task_of (design_tree c.args.self.now) n ≡ None))
    (sym c.from_residual-in_err-index.ensures)
    (subst (λ (d : Design). task_of (design_tree d) n ≡ None) c.self.view_is
    (without_index own n c.in_ok-item.item.now listed c.in_err-index.was))

pub returns-in_err-task-clause-none : goal.returns-in_err-task-clause-none
returns-in_err-task-clause-none c =
    let own = c.self.inside.design.now in
    let n = c.args.number in
    let item = c.in_ok-item.item.now in
    let k = c.in_ok-index.field-0 in
    let listed = item-read own.tasks.items c.deref.result.now n (Some c.in_ok-item.item) c.deref.ensures.value
    c.in_ok-item.ensures.lookup in
    let none : task_at (body_of own (record { instance = item.instance; body = Task k })) ≡ None =
    sym c.task_def.ensures ∙ ap (option_map (λ (task : Bor TaskDef). task.now)) c.in_err-task.was in
    subst (λ (r : Option DriverTask). IfNone r (task_of (design_tree c.args.self.now) n ≡ None))
    (sym c.from_residual-in_err-task.ensures)
    (subst (λ (d : Design). task_of (design_tree d) n ≡ None) c.self.view_is
    (without_task own n item listed k c.in_ok-index.was none))

pub returns-in-None-clause-none : goal.returns-in-None-clause-none
returns-in-None-clause-none c =
    let own = c.self.inside.design.now in
    let n = c.args.number in
    let item = c.in_ok-item.item.now in
    let listed = item-read own.tasks.items c.deref.result.now n (Some c.in_ok-item.item) c.deref.ensures.value
    c.in_ok-item.ensures.lookup in
    let none = subst (λ (d : Design). site (design_tree d) item.instance ≡ None) c.self.invariant.0
    c.in-None.ensures.none in
    subst (λ (d : Design). task_of (design_tree d) n ≡ None) c.self.view_is
    (without_frame own n item listed c.in_ok-index.field-0 c.in_ok-index.was none)
