use Rattle.std.proofs.Common.{position, sym, ap, ◌∙◌}
use Rattle.tm_syntax.specs.Scopes.Names.{is_spelled}
use Rattle.tm_syntax.specs.Tree.View.{var_tree}
use Rattle.tm_scope.proofs.Positions.{position-map}
use Rattle.tm_scope.proofs.scopes.members.Members.var_index.Goals as goal

pub returns : goal.returns
returns c =
    c.find.ensures ∙ c.self.invariant.var c.args.name.now
    ∙ ap (λ t. position (λ x. is_spelled c.args.name.now x.name) t.vars.items) c.self.view_is
    ∙ sym (position-map (λ x. is_spelled c.args.name.now x.name) var_tree c.args.self.now.vars.items)
