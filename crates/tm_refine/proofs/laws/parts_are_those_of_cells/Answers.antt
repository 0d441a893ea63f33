use Rattle.tm_flat_pool.specs.Predicates.{pool}
use Rattle.tm_game_pool.specs.Separating.{predicates_at}
use Rattle.tm_refine.specs.PoolTests.{tests_tell}
use Rattle.tm_refine.specs.Pooled.{tests_of}
use Rattle.tm_refine.proofs.PoolParts.{lower_iff, upper_iff}
use Rattle.tm_refine.proofs.laws.parts_are_those_of_cells.Goals as goal

pub returns-clause-lower : goal.returns-clause-lower
returns-clause-lower c = λ d g ks a s can valid.
    lower_iff d g can.solve.exact (predicates_at (pool d) ks) (tests_of g ks) (tests_tell d g can.pool ks) a s valid

pub returns-clause-upper : goal.returns-clause-upper
returns-clause-upper c = λ d g ks a s can valid.
    upper_iff d g can.solve.exact (predicates_at (pool d) ks) (tests_of g ks) (tests_tell d g can.pool ks) a s valid
