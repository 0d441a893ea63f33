use Rattle.std.proofs.Common.{◌≡◌, take}
use Rattle.tm_syntax.specs.Tree.View.{spec_tree}
use Rattle.tm_syntax.specs.Counts.Bodies.{param_bits}
use Rattle.tm_limits.specs.Amount.{capped}
use Rattle.tm_limits.proofs.shares.bits.params_bits.Given as goal

abbrev pub invariant-loop-param : goal.invariant-loop-param
invariant-loop-param l = l.bits ≡ capped (param_bits (spec_tree l.scopes) (take l.param-index l.params))
