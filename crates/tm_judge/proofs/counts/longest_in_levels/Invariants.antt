use Rattle.std.proofs.Common.{◌≡◌, drop, max}
use Rattle.tm_judge.specs.Chains.{greatest, longest_in}
use Rattle.tm_judge.proofs.counts.longest_in_levels.Given as goal

abbrev pub invariant-loop-level : goal.invariant-loop-level
invariant-loop-level l =
    max l.most (greatest longest_in (drop l.level-index l.levels)) ≡ greatest longest_in l.levels
