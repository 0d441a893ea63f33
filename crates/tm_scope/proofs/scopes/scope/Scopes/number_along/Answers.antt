use Rattle.std.proofs.Common.{sym, ◌∙◌, arith}
use Rattle.tm_syntax.specs.Tree.View.{spec_tree}
use Rattle.tm_scope.proofs.PathSteps.{number_along-end}
use Rattle.tm_scope.proofs.scopes.scope.Scopes.number_along.Goals as goal

pub returns-clause-number : goal.returns-clause-number
returns-clause-number c =
    sym (c.loop-next.invariant.leads
    ∙ number_along-end (spec_tree c.args.self.now) c.loop-next.at c.args.path.now c.loop-next.next (omega arith))
