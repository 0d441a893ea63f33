use Rattle.std.proofs.Common.{◌≡◌, ◌++◌, map, take}
use Rattle.tm_reorder.specs.Inner.Keys.{chain_keys}
use Rattle.tm_reorder.proofs.keys.push_chains.Given as goal

abbrev pub invariant-loop-chain : goal.invariant-loop-chain
invariant-loop-chain l =
    l.keys.items ≡ l.fn.keys.items ++ chain_keys (map (λ chain. chain.items) (take l.chain-index l.chains))
