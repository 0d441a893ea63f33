use Rattle.std.proofs.Common.{◌-◌, length}
use Rattle.tm_solve.specs.Ids.{Follows}
use Rattle.tm_solve.specs.Sets.{count}
use Rattle.tm_solve.specs.Inner.Turns.{IsRanked}
use Rattle.tm_solve.specs.Inner.Goals.{ReachSoFar}
use Rattle.tm_solve.specs.Narrowed.{narrowed}
use Rattle.tm_solve.proofs.goals.reach.Given as goal

abbrev pub invariant-turns : goal.invariant-turns
invariant-turns g l = record {
  follows : Follows (g.P.Pre.game l.fn.pre) (g.P.Pre.ids l.fn.pre) (g.P.Pre.game l.pre) (g.P.Pre.ids l.pre);
  reach : ReachSoFar (narrowed (g.P.Pre.game l.fn.pre) ((g.P.Pre.ids l.fn.pre).means l.z)) (g.P.Pre.ids l.pre)
      ((g.P.Pre.ids l.fn.pre).means l.z) l.goal l.y;
  ranked : IsRanked (narrowed (g.P.Pre.game l.fn.pre) ((g.P.Pre.ids l.fn.pre).means l.z)) (g.P.Pre.ids l.pre)
      ((g.P.Pre.ids l.fn.pre).means l.z) l.goal l.y l.sets.items;
}

abbrev pub decreases-turns : goal.decreases-turns
decreases-turns g l = length (g.P.Pre.game l.fn.pre).states - count (g.P.Pre.game l.fn.pre).states
    ((g.P.Pre.ids l.pre).means l.y)
