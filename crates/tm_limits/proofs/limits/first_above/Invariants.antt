use Rattle.std.proofs.Common.{◌≡◌, drop, find, nat_lt}
use Rattle.tm_syntax.specs.Tree.View.{spec_tree}
use Rattle.tm_syntax.specs.Faults.Limits.{count_of, counted, first_above, limit_of}
use Rattle.tm_limits.proofs.limits.first_above.Given as goal

abbrev pub invariant-loop-quantity : goal.invariant-loop-quantity
invariant-loop-quantity l =
    find (λ q. nat_lt (limit_of q) (count_of (spec_tree l.scopes) q)) (drop l.quantity-index counted)
    ≡ first_above (spec_tree l.scopes)
