use Rattle.std.proofs.Common.{◌≡◌, ℕ, get_or, map, take}
use Rattle.std.specs.Prelude.{Contains}
use Rattle.tm_syntax.specs.declared.fault.Quantity.TheVariants as quantity
use Rattle.tm_limits.specs.Shares.{combination_of}
use Rattle.tm_limits.specs.Amount.{capped}
use Rattle.tm_limits.specs.Totals.{combined, over}
use Rattle.tm_inst.proofs.sizes.size_with.Given as goal

abbrev pub invariant-loop-node : goal.invariant-loop-node
invariant-loop-node l =
    (count : ℕ → ℕ) → ((n : ℕ) → Contains l.below n → get_or l.sizes n 0 ≡ capped (count n)) →
    l.size ≡ capped (combined (combination_of quantity.Instances) 1
    (over (combination_of quantity.Instances) (map count (take l.node-index l.below))))
