use Rattle.std.proofs.Common.{◌≡◌, ◌+◌, ◌<◌, ◌≤◌, Some, length, nat_eq, nat_lt, slice_get, refl, sym, ap, ◌∙◌, subst, arith}
use Rattle.std.specs.Prelude.{◌||◌, ◌&&◌}
use Rattle.std.proofs.lemmas.Option.{slice_get_read}
use Rattle.tm_scope.specs.Marks.{is_in}
use Rattle.tm_scope.proofs.TextTasks.{AreTasksBelow, all_tasks-are, no_tasks, tasks_more}
use Rattle.tm_scope.proofs.calls.reaching.all_tasks.Goals as goal

pub loop-number-init : goal.loop-number-init
loop-number-init c = subst (AreTasksBelow c.args.spec.now 0) (sym c.new-tasks.ensures) (no_tasks c.args.spec.now)

pub loop-number-preserved : goal.loop-number-preserved
loop-number-preserved c =
    let s = c.args.spec.now in
    let n = c.loop-number.number in
    let t = c.index.result.now in
    let old = c.loop-number.tasks in
    let many : c.len-number-end.result ≡ length s.templates.items = c.len-number-end.ensures ∙ s.templates.ok.0 in
    let below : n < c.len-number-end.result = c.loop-number-test.true in
    let within : n < length s.templates.items = omega arith in
    let at : slice_get s.templates.items n ≡ Some t =
    slice_get_read s.templates.items (length s.templates.items) n t refl within c.index.ensures in
    let count : c.len-count.result ≡ length t.tasks.items = c.len-count.ensures ∙ t.tasks.ok.0 in
    let few : length c.add_tasks.new.tasks ≤ length old + c.len-count.result = c.in_ok-add_tasks.ensures.few in
    tasks_more s n t at old c.add_tasks.new.tasks c.loop-number.invariant
    (λ m. c.in_ok-add_tasks.ensures.found m
    ∙ ap (λ k. is_in old m || (nat_eq m.template n && nat_lt m.index k)) count)
    (omega arith)

pub returns : goal.returns
returns c =
    let s = c.args.spec.now in
    let many : c.len-number-end.result ≡ length s.templates.items = c.len-number-end.ensures ∙ s.templates.ok.0 in
    let past : c.len-number-end.result ≤ c.loop-number.number = c.loop-number-test.false in
    let upto : c.loop-number.number ≤ c.len-number-end.result = c.loop-number.auto.number-end in
    all_tasks-are s c.loop-number.number c.loop-number.tasks (omega arith) c.loop-number.invariant
