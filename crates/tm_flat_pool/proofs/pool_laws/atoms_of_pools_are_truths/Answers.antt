use Rattle.tm_typing.proofs.Sound.{checked}
use Rattle.tm_flat_pool.proofs.PoolAtoms.{pool_truths}
use Rattle.tm_flat_pool.proofs.pool_laws.atoms_of_pools_are_truths.Goals as goal

pub returns : goal.returns
returns c = λ d sound of. pool_truths d (checked d sound of)
