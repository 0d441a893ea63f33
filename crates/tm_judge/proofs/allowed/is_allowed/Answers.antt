use Rattle.std.proofs.lemmas.Result.{IfOk-weaker}
use Rattle.tm_syntax.specs.Design.View.{design_tree}
use Rattle.tm_judge.proofs.allowed.is_allowed.Goals as goal

pub returns : goal.returns
returns c =
    IfOk-weaker c.allowed-yes.result _ _
    (λ yes answer. answer (design_tree c.args.design.now) c.in-Ok.ensures.of c.requires.state)
    c.allowed-yes.ensures.answer
