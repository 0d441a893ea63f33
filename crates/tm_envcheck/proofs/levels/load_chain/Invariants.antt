use Rattle.std.proofs.Common.{◌≡◌, take}
use Rattle.tm_envcheck.specs.Inner.Loaded.{chain_at}
use Rattle.tm_envcheck.proofs.levels.load_chain.Given as goal

abbrev pub invariant-loop-set : goal.invariant-loop-set
invariant-loop-set l = l.told.items ≡ chain_at l.ids (take l.set-index l.chain)
