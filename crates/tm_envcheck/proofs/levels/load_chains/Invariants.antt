use Rattle.std.proofs.Common.{◌≡◌, map, take}
use Rattle.tm_envcheck.specs.Inner.Loaded.{chain_at}
use Rattle.tm_envcheck.proofs.levels.load_chains.Given as goal

abbrev pub invariant-loop-chain : goal.invariant-loop-chain
invariant-loop-chain l =
    map (λ chain. chain.items) l.told.items
    ≡ map (λ chain. chain_at l.ids chain.items) (take l.chain-index l.chains)
