use Rattle.std.proofs.Common.{sym, subst}
use Rattle.std.specs.Prelude.{IfOk}
use Rattle.tm_syntax.specs.declared.design.Design.{Design}
use Rattle.tm_syntax.specs.Design.View.{design_tree}
use Rattle.tm_sem.specs.First.{IsFirst}
use Rattle.tm_sem.specs.Step.{IsState}
use Rattle.tm_states.proofs.StateLaws.{sized}
use Rattle.tm_typing.proofs.Sound.{checked}
use Rattle.tm_plain.proofs.machine.Machine.first_state.Goals as goal

pub first_state-requires : goal.first_state-requires
first_state-requires c =
    let m = c.self.inside in
    let sound = c.self.invariant.1.sound in
    record { text = c.self.invariant.3; sized = sized (design_tree m.design.now) sound.fitting sound.numbered }

pub returns-clause-bad : goal.returns-clause-bad
returns-clause-bad c = λ is s first.
    c.first_state.ensures.bad is s
    (subst (λ (d : Design). IsFirst (design_tree d) c.args.choices.now s) (sym c.self.view_is) first)

pub returns-clause-valid : goal.returns-clause-valid
returns-clause-valid c =
    let m = c.self.inside in
    let runnable = c.self.invariant.1 in
    subst (λ (d : Design). IfOk c.first_state.result (IsState (design_tree d))) c.self.view_is
    (c.first_state.ensures.valid (checked (design_tree m.design.now) runnable.sound runnable.read)
    runnable.sound.numbered)
