use Rattle.std.proofs.Common.{◌≡◌, IfOk, subst}
use Rattle.tm_syntax.specs.declared.design.Design.{Design}
use Rattle.tm_syntax.specs.Design.View.{design_tree}
use Rattle.tm_judge.specs.Shape.{shape_of}
use Rattle.tm_judge.proofs.shape.cert_shape.Goals as goal

pub returns : goal.returns
returns c =
    subst
    (λ (d : Design). IfOk c.shape_by_tables-shape.result (λ shape. shape ≡ shape_of (design_tree d) c.args.wanted))
    c.in-Ok.ensures c.shape_by_tables-shape.ensures
