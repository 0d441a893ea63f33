use Rattle.std.proofs.Common.{◌+◌, sym, ap, ◌∙◌, subst}
use Rattle.std.specs.Prelude.{IfOk, is_some, slice_index}
use Rattle.tm_syntax.specs.Design.View.{design_tree}
use Rattle.tm_sem.specs.declared.state.Move.{Move}
use Rattle.tm_sem.specs.declared.state.Move.TheVariants as moves
use Rattle.tm_sem.specs.Step.{Step, work}
use Rattle.tm_plain.specs.Ends.{still, work_from}
use Rattle.tm_plain.proofs.Calling.{nothing_permitted, work_done}
use Rattle.tm_plain.proofs.Permitting.{idle_is, leave_is, leaving_within, run_is, running_within}
use Rattle.tm_plain.proofs.machine.Machine.make_move.Goals as goal

pub returns-then-not-permitted : goal.returns-then-not-permitted
returns-then-not-permitted c =
    nothing_permitted (design_tree c.args.self.now) c.args.state.now c.args.choices.now
    (work (design_tree c.args.self.now) c.args.state.now c.args.action.now)
    (sym c.in_ok-permitted.ensures ∙ c.if-not-permitted.true)

pub returns-in-Stutter : goal.returns-in-Stutter
returns-in-Stutter c =
    let d = design_tree c.args.self.now in
    subst (λ (m : Move). IfOk c.stay.result (Step d c.args.state.now m c.args.choices.now)) (sym c.in-Stutter.is)
    (c.stay.ensures d)

pub run_process-requires : goal.run_process-requires
run_process-requires c =
    let d = design_tree c.args.self.now in
    let s = c.args.state.now in
    running_within d s c.in-Process.process
    (ap (λ (m : Move). is_some (work d s m)) (sym c.in-Process.is) ∙ sym c.in_ok-permitted.ensures
    ∙ c.if-not-permitted.false)

pub returns-in-Process : goal.returns-in-Process
returns-in-Process c =
    let d = design_tree c.args.self.now in
    let s = c.args.state.now in
    let p = c.in-Process.process in
    let some = ap (λ (m : Move). is_some (work d s m)) (sym c.in-Process.is) ∙ sym c.in_ok-permitted.ensures
    ∙ c.if-not-permitted.false in
    subst (λ (m : Move). IfOk c.run_process.result (Step d s m c.args.choices.now)) (sym c.in-Process.is)
    (work_done d s c.args.choices.now (work d s (moves.Process p)) (work_from d s p (slice_index s.places p) (2 + p))
    (run_is d s p some) c.run_process.result c.run_process.ensures)

pub returns-in-Idle : goal.returns-in-Idle
returns-in-Idle c =
    let d = design_tree c.args.self.now in
    let s = c.args.state.now in
    let some = ap (λ (m : Move). is_some (work d s m)) (sym c.in-Idle.is) ∙ sym c.in_ok-permitted.ensures
    ∙ c.if-not-permitted.false in
    subst (λ (m : Move). IfOk c.stay-in-Idle.result (Step d s m c.args.choices.now)) (sym c.in-Idle.is)
    (work_done d s c.args.choices.now (work d s moves.Idle) (still s 1) (idle_is d s some) c.stay-in-Idle.result
    (c.stay-in-Idle.ensures d))

pub move_process-requires : goal.move_process-requires
move_process-requires c =
    let d = design_tree c.args.self.now in
    let s = c.args.state.now in
    leaving_within d s c.in-Leave.process
    (ap (λ (m : Move). is_some (work d s m)) (sym c.in-Leave.is) ∙ sym c.in_ok-permitted.ensures
    ∙ c.if-not-permitted.false)

pub returns-in-Leave : goal.returns-in-Leave
returns-in-Leave c =
    let d = design_tree c.args.self.now in
    let s = c.args.state.now in
    let p = c.in-Leave.process in
    let some = ap (λ (m : Move). is_some (work d s m)) (sym c.in-Leave.is) ∙ sym c.in_ok-permitted.ensures
    ∙ c.if-not-permitted.false in
    subst (λ (m : Move). IfOk c.move_process.result (Step d s m c.args.choices.now)) (sym c.in-Leave.is)
    (work_done d s c.args.choices.now (work d s (moves.Leave p)) (work_from d s p (slice_index s.places p) 1)
    (leave_is d s p some) c.move_process.result c.move_process.ensures)
