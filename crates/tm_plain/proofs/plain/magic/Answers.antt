use Rattle.std.proofs.Common.{◌≡◌, IfOk, subst}
use Rattle.tm_syntax.specs.declared.design.Design.{Design}
use Rattle.tm_syntax.specs.Design.View.{design_tree}
use Rattle.tm_sem.specs.Step.{is_driver_turn}
use Rattle.tm_plain.proofs.plain.magic.Goals as goal

pub returns : goal.returns
returns c =
    subst
    (λ (d : Design). IfOk c.magic_by-magic.result (λ magic. magic ≡ is_driver_turn (design_tree d) c.args.state.now))
    c.in-Ok.ensures c.magic_by-magic.ensures
