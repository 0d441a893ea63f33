use Rattle.std.proofs.Common.{◌≡◌, ℕ, get_or, map, take}
use Rattle.std.specs.Prelude.{Contains}
use Rattle.tm_limits.specs.Amount.{capped}
use Rattle.tm_limits.specs.Totals.{combined, over}
use Rattle.tm_limits.proofs.totals.total.Given as goal

abbrev pub invariant-loop-target : goal.invariant-loop-target
invariant-loop-target l =
    (m : ℕ) (count : ℕ → ℕ) → l.own ≡ capped m →
    ((n : ℕ) → Contains l.below n → get_or l.totals n 0 ≡ capped (count n)) →
    l.total ≡ capped (combined l.combination m (over l.combination (map count (take l.target-index l.below))))
