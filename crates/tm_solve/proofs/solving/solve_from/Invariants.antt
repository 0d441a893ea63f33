use Rattle.tm_solve.specs.Ids.{Follows}
use Rattle.tm_solve.specs.Sets.{count}
use Rattle.tm_solve.specs.Inner.Rounds.{RegionSoFar}
use Rattle.tm_solve.proofs.solving.solve_from.Given as goal

abbrev pub invariant-rounds : goal.invariant-rounds
invariant-rounds g l = record {
  follows : Follows (g.P.Pre.game l.fn.pre) (g.P.Pre.ids l.fn.pre) (g.P.Pre.game l.pre) (g.P.Pre.ids l.pre);
  region : RegionSoFar (g.P.Pre.game l.fn.pre) (g.P.Pre.ids l.pre) l.z;
}

abbrev pub decreases-rounds : goal.decreases-rounds
decreases-rounds g l = count (g.P.Pre.game l.fn.pre).states ((g.P.Pre.ids l.pre).means l.z)
