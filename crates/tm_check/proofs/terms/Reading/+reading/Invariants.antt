use Rattle.std.proofs.Common.{◌+◌, ◌*◌}
use Rattle.std.specs.Prelude.{max}
use Rattle.tm_check.proofs.terms.Reading.+reading.Given as goal
use Rattle.tm_cir.proofs.block.Num64.TheLaws.{the_size as num_size}
use Rattle.tm_cir.proofs.block.Truth.TheLaws.{the_size as truth_size}

abbrev pub decreases-num : goal.decreases-num
decreases-num l = 2 * num_size l.num.now

abbrev pub decreases-turned : goal.decreases-turned
decreases-turned l = 2 * num_size l.a.now + 1

abbrev pub decreases-combined : goal.decreases-combined
decreases-combined l = 2 * max (num_size l.a.now) (num_size l.b.now) + 1

abbrev pub decreases-moved : goal.decreases-moved
decreases-moved l = 2 * num_size l.a.now + 1

abbrev pub decreases-chosen : goal.decreases-chosen
decreases-chosen l = 2 * max (truth_size l.truth.now) (max (num_size l.a.now) (num_size l.b.now)) + 1

abbrev pub decreases-truth : goal.decreases-truth
decreases-truth l = 2 * truth_size l.truth.now

abbrev pub decreases-is_nonzero : goal.decreases-is_nonzero
decreases-is_nonzero l = 2 * num_size l.a.now + 1

abbrev pub decreases-not : goal.decreases-not
decreases-not l = 2 * truth_size l.a.now + 1

abbrev pub decreases-compares : goal.decreases-compares
decreases-compares l = 2 * max (num_size l.a.now) (num_size l.b.now) + 1

abbrev pub decreases-joins : goal.decreases-joins
decreases-joins l = 2 * max (truth_size l.a.now) (truth_size l.b.now) + 1
