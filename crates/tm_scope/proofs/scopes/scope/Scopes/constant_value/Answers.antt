use Rattle.std.proofs.Common.{ap, ◌∙◌}
use Rattle.tm_syntax.specs.Scopes.Names.{constant_value}
use Rattle.tm_syntax.specs.Tree.View.{spec_tree}
use Rattle.tm_scope.proofs.scopes.scope.Scopes.constant_value.Goals as goal

pub returns : goal.returns
returns c =
    c.value.ensures
    ∙ ap (λ s. constant_value (spec_tree s) c.args.name.now) (c.self.invariant.0 ∙ c.self.view_is)
