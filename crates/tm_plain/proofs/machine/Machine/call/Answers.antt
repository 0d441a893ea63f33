use Rattle.std.proofs.Common.{◌≡◌, [], length, refl, sym, ◌∙◌, subst}
use Rattle.std.specs.Prelude.{IfOk}
use Rattle.std.specs.List.{zip}
use Rattle.tm_syntax.specs.declared.design.Design.{Design}
use Rattle.tm_syntax.specs.Tree.View.{body_tree}
use Rattle.tm_syntax.specs.Design.View.{design_tree}
use Rattle.tm_syntax.specs.Design.Work.{body_items}
use Rattle.tm_scope.specs.Cells.{scope_of}
use Rattle.tm_sem.specs.declared.state.Move.TheVariants as moves
use Rattle.tm_sem.specs.Step.{Comes, memory_of, work}
use Rattle.tm_typing.proofs.Sound.{checked}
use Rattle.tm_plain_exprs.specs.Kept.{Keeps, put_all}
use Rattle.tm_plain_bodies.specs.Frames.{BodyFits}
use Rattle.tm_plain_bodies.specs.Tables.{tables_of}
use Rattle.tm_plain.specs.Ends.{Leads, driver_work}
use Rattle.tm_plain.specs.Machine.{IsRunnable}
use Rattle.tm_plain.proofs.Calling.{arguments_count, body_fits, call_leads, items_are, work_done}
use Rattle.tm_plain.proofs.DriverTasks.{task_here}
use Rattle.tm_plain.proofs.Fitness.{typed_cells}
use Rattle.tm_plain.proofs.Permitting.{call_is, call_of}
use Rattle.tm_plain.proofs.machine.Machine.call.Goals as goal

pub give-requires : goal.give-requires
give-requires c =
    task_here c.args.self.now c.requires.0 c.args.called.now.frame c.args.called.now.task.now c.requires.1

pub perform_body-done-requires : goal.perform_body-done-requires
perform_body-done-requires c =
    let d = c.args.self.now in
    let frame = c.args.called.now.frame in
    let task = c.args.called.now.task.now in
    let runnable : IsRunnable d = subst IsRunnable c.self.view_is c.self.invariant.1 in
    subst (λ (d : Design). BodyFits d frame (body_tree task.body)) (sym (c.self.invariant.0 ∙ c.self.view_is))
    (body_fits d c.requires.0 frame task c.requires.1
    (checked (design_tree d) runnable.sound runnable.read))

pub returns-in-Ok-give : goal.returns-in-Ok-give
returns-in-Ok-give c = λ number permitted of.
    let d = c.args.self.now in
    let s = c.args.state.now in
    let frame = c.args.called.now.frame in
    let task = c.args.called.now.task.now in
    let args = c.args.args.now in
    let choices = c.args.choices.now in
    let begun = c.in-Ok.course in
    let to = c.perform_body-done.new.course in
    let done = c.perform_body-done.result in
    let runnable : IsRunnable d = subst IsRunnable c.self.view_is c.self.invariant.1 in
    let kept : Keeps (tables_of d) begun.store (memory_of s) = c.in-Ok.ensures.keeps (tables_of d) in
    let m = put_all (memory_of s) of.called.params args in
    let keeps : Keeps (tables_of d) c.give.new.course.store m =
    c.in-Ok-give.ensures.given d number of s runnable.sound kept in
    let items = body_items (scope_of of.at) [] (body_tree task.body) in
    let counted = arguments_count (length s.values) (memory_of s) (zip of.called.params args) refl in
    let leads : Leads d items m choices to done =
    subst (λ cs. Leads d items m cs to done) (c.in-Ok-give.ensures.choices ∙ c.in-Ok.ensures.choices)
    (call_leads d number frame task of runnable.sound (typed_cells d runnable) m _ to
    (c.in-Ok-give.ensures.trail ∙ c.in-Ok.ensures.trail) keeps done c.perform_body-done.ensures.does) in
    work_done (design_tree d) s choices (work (design_tree d) s (moves.Call number args))
    (call_of (design_tree d) s number args of.called)
    (call_is (design_tree d) s number args of.called of.is permitted) c.called_outcome-outcome.result
    (subst (λ items. IfOk c.called_outcome-outcome.result (Comes (design_tree d) s (driver_work items m) choices))
    (sym (items_are d number frame task of))
    (c.called_outcome-outcome.ensures d items m choices counted leads))
