use Rattle.std.proofs.Common.{◌≡◌, drop, length, max}
use Rattle.tm_judge.specs.Chains.{greatest}
use Rattle.tm_judge.proofs.counts.longest_of.Given as goal

abbrev pub invariant-loop-chain : goal.invariant-loop-chain
invariant-loop-chain l =
    max l.most (greatest (λ chain. length chain.items) (drop l.chain-index l.chains))
    ≡ greatest (λ chain. length chain.items) l.chains
