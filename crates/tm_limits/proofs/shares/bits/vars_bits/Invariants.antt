use Rattle.std.proofs.Common.{◌≡◌, map, take}
use Rattle.std.specs.Prelude.{sum_by}
use Rattle.tm_syntax.specs.Tree.View.{spec_tree, var_tree}
use Rattle.tm_syntax.specs.Counts.Bodies.{var_bits}
use Rattle.tm_limits.specs.Amount.{capped}
use Rattle.tm_limits.proofs.shares.bits.vars_bits.Given as goal

abbrev pub invariant-loop-var : goal.invariant-loop-var
invariant-loop-var l =
    l.bits ≡ capped (sum_by (var_bits (spec_tree l.scopes)) (map var_tree (take l.var-index l.vars)))
