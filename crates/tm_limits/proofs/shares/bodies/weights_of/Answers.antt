use Rattle.std.proofs.Common.{length, sym, subst}
use Rattle.tm_limits.specs.declared.weights.Weight.{Weight}
use Rattle.tm_limits.specs.Inner.Weights.{weight_of}
use Rattle.tm_limits.specs.TaskBodies.{HasWeights}
use Rattle.tm_limits.proofs.shares.bodies.weights_of.Goals as goal

pub returns-in-Statements : goal.returns-in-Statements
returns-in-Statements c = λ spec counted.
    subst (λ (w : Weight). HasWeights spec (weight_of w) counted.order (length counted.order)
    c.args.counts.now.statements.entries) (sym c.in-Statements.is) counted.statements

pub returns-in-Locations : goal.returns-in-Locations
returns-in-Locations c = λ spec counted.
    subst (λ (w : Weight). HasWeights spec (weight_of w) counted.order (length counted.order)
    c.args.counts.now.locations.entries) (sym c.in-Locations.is) counted.locations
