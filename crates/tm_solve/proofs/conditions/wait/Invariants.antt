use Rattle.tm_solve.specs.Ids.{Follows, Is}
use Rattle.tm_solve.specs.Narrowed.{narrowed}
use Rattle.tm_solve.specs.Sets.{count, everywhere}
use Rattle.tm_solve.specs.Inner.Waits.{WaitsSoFar}
use Rattle.tm_solve.proofs.conditions.wait.Given as goal

abbrev pub invariant-iterates : goal.invariant-iterates
invariant-iterates g l = record {
  follows : Follows (g.P.Pre.game l.fn.pre) (g.P.Pre.ids l.fn.pre) (g.P.Pre.game l.pre) (g.P.Pre.ids l.pre);
  whole : Is (g.P.Pre.game l.fn.pre).states (g.P.Pre.ids l.pre) l.whole everywhere;
  waits : WaitsSoFar (narrowed (g.P.Pre.game l.fn.pre) ((g.P.Pre.ids l.fn.pre).means l.z)) (g.P.Pre.ids l.pre)
      ((g.P.Pre.ids l.fn.pre).means l.z) ((g.P.Pre.ids l.fn.pre).means l.y) l.goal l.fair l.x l.sets.items;
}

abbrev pub decreases-iterates : goal.decreases-iterates
decreases-iterates g l = count (g.P.Pre.game l.fn.pre).states ((g.P.Pre.ids l.pre).means l.x)
