use Rattle.std.proofs.Common.{[], ◌∷◌, ◌++◌, ap, ◌∙◌}
use Rattle.tm_syntax.specs.Tree.{path}
use Rattle.tm_parse.proofs.declarations.constant.Goals as goal

pub returns-clause-taken : goal.returns-clause-taken
returns-clause-taken c = (
  c.in-Ok.read.0,
  ap path (c.in_ok-push.ensures.items ∙ ap (λ ns. ns ++ c.in-Ok.read.0 ∷ []) c.new-names.ensures.items),
  c.in-Ok.ensures.taken,
)
