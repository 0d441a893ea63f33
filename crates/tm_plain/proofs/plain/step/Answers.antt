use Rattle.std.proofs.Common.{IfOk, subst}
use Rattle.tm_syntax.specs.declared.design.Design.{Design}
use Rattle.tm_syntax.specs.Design.View.{design_tree}
use Rattle.tm_sem.specs.Step.{IsState, LeadsToState}
use Rattle.tm_plain.proofs.plain.step.Goals as goal

pub returns-clause-valid : goal.returns-clause-valid
returns-clause-valid c =
    subst (λ (d : Design). IsState (design_tree d) c.args.state.now →
    IfOk c.step_by-outcome.result (LeadsToState (design_tree d))) c.in-Ok.ensures c.step_by-outcome.ensures.valid
