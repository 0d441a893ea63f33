use Rattle.tm_flat_pool.proofs.Parted.{unions_are_unions}
use Rattle.tm_flat_pool.proofs.pool_laws.predicates_part_cells.Goals as goal

-- src/lib.rt:24:1
pub returns-clause-unions : goal.returns-clause-unions
returns-clause-unions c = unions_are_unions
