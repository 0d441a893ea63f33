use Rattle.std.proofs.Common.{◌≡◌, sym, ◌∙◌}
use Rattle.std.specs.Prelude.{is_some}
use Rattle.std.proofs.lemmas.Result.{IfOk-weaker}
use Rattle.tm_syntax.specs.Design.View.{design_tree}
use Rattle.tm_sem.specs.Step.{call_work}
use Rattle.tm_plain.specs.Tasks.{Takes}
use Rattle.tm_plain.proofs.DriverTasks.{tasks_here}
use Rattle.tm_plain.proofs.machine.Machine.may_call.Goals as goal

pub takes-requires : goal.takes-requires
takes-requires c =
    tasks_here c.args.self.now c.args.number c.controllable-called.result c.controllable-called.ensures.found

pub returns : goal.returns
returns c =
    let d = c.args.self.now in
    let s = c.args.state.now in
    let n = c.args.number in
    let args = c.args.args.now in
    let called = c.controllable-called in
    IfOk-weaker c.takes.result (Takes called.result args) (λ may. may ≡ is_some (call_work (design_tree d) s n args))
    (λ fit takes. takes d n s called.ensures.found called.ensures.none (sym c.magic.ensures ∙ c.if-not-magic.false))
    c.takes.ensures
