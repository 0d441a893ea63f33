use Rattle.std.proofs.Common.{◌≡◌, Option, None, Some, subst}
use Rattle.std.specs.Prelude.{IfNone, IfSome}
use Rattle.std.proofs.lemmas.Result.{IfOk-weaker}
use Rattle.tm_syntax.specs.Design.View.{design_tree}
use Rattle.tm_sem.specs.Step.{task_of}
use Rattle.tm_design.specs.Parameters.{task_at}
use Rattle.tm_plain.specs.declared.machine.tasks.DriverTask.{DriverTask}
use Rattle.tm_plain.specs.Tasks.{IsDriverTask, Suits, Takes}
use Rattle.tm_plain.proofs.Permitting.{call_at_turn, no_call}
use Rattle.tm_plain.proofs.machine.permits.takes.Goals as goal

pub suits-requires : goal.suits-requires
suits-requires c =
    subst (λ (o : Option DriverTask). IfSome o (λ k. task_at k.frame.reader ≡ Some k.task.now)) c.in-Some.is c.requires

pub returns-in-Some : goal.returns-in-Some
returns-in-Some c =
    let args = c.args.args.now in
    let called = c.in-Some.called in
    IfOk-weaker c.suits.result (Suits called args) (Takes c.args.found.now args)
    (λ fit suits. λ d number s is none turn.
    let of : IsDriverTask d number called.frame called.task.now =
    subst (λ (o : Option DriverTask). IfSome o (λ k. IsDriverTask d number k.frame k.task.now)) c.in-Some.is is in
    call_at_turn (design_tree d) s number args of.called of.is turn fit (suits d number of))
    c.suits.ensures

pub returns-in-None : goal.returns-in-None
returns-in-None c = λ d number s is none turn.
    no_call (design_tree d) s number c.args.args.now
    (subst (λ (o : Option DriverTask). IfNone o (task_of (design_tree d) number ≡ None)) c.in-None.is none)
