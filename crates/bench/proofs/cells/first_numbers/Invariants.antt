-- Those so far are of the pool.
use Rattle.std.proofs.Common.{◌<◌, All}
use Rattle.bench.proofs.cells.first_numbers.Given as goal

abbrev pub invariant-loop-number : goal.invariant-loop-number
invariant-loop-number l = All (λ k. k < l.fn.pool) l.numbers.items
