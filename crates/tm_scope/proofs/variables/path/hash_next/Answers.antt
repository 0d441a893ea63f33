use Rattle.std.proofs.Common.{◌+◌, ◌*◌, ◌%◌, ◌^◌, ap}
use Rattle.tm_scope.specs.VariablePaths.{hash_next}
use Rattle.tm_scope.specs.declared.variables.path.TheConstants.{FACTOR}
use Rattle.tm_scope.proofs.variables.path.hash_next.Goals as goal

pub returns : goal.returns
unfolding hash_next
returns c = ap (λ byte. (c.args.hash * FACTOR % 2 ^ 64 + byte) % 2 ^ 64) c.from.ensures
