use Rattle.std.proofs.Common.{◌≡◌, IfOk, subst}
use Rattle.tm_syntax.specs.declared.design.Design.{Design}
use Rattle.tm_syntax.specs.Design.View.{design_tree}
use Rattle.tm_sem.specs.Play.{goal_holds}
use Rattle.tm_plain.proofs.plain.holds.Goals as goal

pub returns : goal.returns
returns c =
    subst (λ (d : Design). IfOk c.holds_by-holds.result (λ holds. holds ≡ goal_holds (design_tree d) c.args.state.now
    c.args.goal)) c.in-Ok.ensures c.holds_by-holds.ensures
