use Rattle.tm_syntax.specs.Design.View.{design_tree}
use Rattle.tm_cparse.proofs.Scans.{some_map}
use Rattle.tm_cparse.proofs.scan.first_token.Goals as goal

pub returns-then-len-eq0 : goal.returns-then-len-eq0
returns-then-len-eq0 c =
    some_map _ (λ r h. h (design_tree c.args.design.now)) c.first_sign.result c.first_sign.ensures
