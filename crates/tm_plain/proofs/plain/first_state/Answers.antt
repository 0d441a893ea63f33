use Rattle.std.proofs.Common.{subst}
use Rattle.tm_syntax.specs.declared.design.Design.{Design}
use Rattle.tm_syntax.specs.Design.View.{design_tree}
use Rattle.tm_sem.specs.First.{IsFirst}
use Rattle.tm_plain.proofs.plain.first_state.Goals as goal

pub returns-clause-bad : goal.returns-clause-bad
returns-clause-bad c = λ is s.
    subst (λ (d : Design). ¬ IsFirst (design_tree d) c.args.choices.now s) c.in-Ok.ensures
    (c.first_by-state.ensures.bad is s)
