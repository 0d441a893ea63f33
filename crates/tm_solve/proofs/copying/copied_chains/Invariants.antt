use Rattle.std.proofs.Common.{◌≡◌, map, take}
use Rattle.tm_solve.specs.Begun.{ids_of}
use Rattle.tm_solve.proofs.copying.copied_chains.Given as goal

abbrev pub invariant-loop-chain : goal.invariant-loop-chain
invariant-loop-chain l = map ids_of l.copies.items ≡ map ids_of (take l.chain-index l.chains)
