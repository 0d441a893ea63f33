use Rattle.std.proofs.Common.{◌≡◌, false, None, sym, ◌∙◌, true≢false}
use Rattle.std.specs.Prelude.{is_some}
use Rattle.tm_syntax.specs.Design.View.{design_tree}
use Rattle.tm_sem.specs.Step.{call_work, task_of}
use Rattle.tm_plain.proofs.DriverTasks.{found_task}
use Rattle.tm_plain.proofs.Permitting.{no_call}
use Rattle.tm_plain.proofs.machine.Machine.call_task.Goals as goal

pub call_found-requires : goal.call_found-requires
call_found-requires c =
    let d = c.args.self.now in
    let n = c.args.number in
    let called = c.controllable-called in (
      n,
      found_task d n called.result called.ensures.found called.ensures.none
          (λ none. true≢false (sym (no_call (design_tree d) c.args.state.now n c.args.args.now none ∙ c.requires))),
    )

pub returns : goal.returns
returns c =
    let d = c.args.self.now in
    let n = c.args.number in
    let called = c.controllable-called in
    c.call_found.ensures n c.requires
    (found_task d n called.result called.ensures.found called.ensures.none
    (λ none. true≢false (sym (no_call (design_tree d) c.args.state.now n c.args.args.now none ∙ c.requires))))
