use Rattle.std.proofs.Common.{ap, ◌∙◌}
use Rattle.tm_syntax.specs.Scopes.Types.{valued_in}
use Rattle.tm_scope.specs.Types.{ty_of}
use Rattle.tm_design.proofs.types.valued_type.Goals as goal

pub returns : goal.returns
returns c = λ d has. c.valued_in.ensures ∙ ap (valued_in (ty_of c.args.asked)) (c.own_type.ensures d has)
