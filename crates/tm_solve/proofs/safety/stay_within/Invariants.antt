use Rattle.tm_solve.specs.Ids.{Follows, Is}
use Rattle.tm_solve.specs.Sets.{count, everywhere}
use Rattle.tm_solve.specs.Inner.Safety.{Keeps}
use Rattle.tm_solve.proofs.safety.stay_within.Given as goal

abbrev pub invariant-steps : goal.invariant-steps
invariant-steps g l = record {
  follows : Follows (g.P.Pre.game l.fn.pre) (g.P.Pre.ids l.fn.pre) (g.P.Pre.game l.pre) (g.P.Pre.ids l.pre);
  whole : Is (g.P.Pre.game l.fn.pre).states (g.P.Pre.ids l.pre) l.whole everywhere;
  keeps : Keeps (g.P.Pre.game l.fn.pre) (g.P.Pre.ids l.fn.pre) (g.P.Pre.ids l.pre) l.fn.start l.z l.fn.levels.items
      l.levels.items;
}

abbrev pub decreases-steps : goal.decreases-steps
decreases-steps g l = count (g.P.Pre.game l.fn.pre).states ((g.P.Pre.ids l.pre).means l.z)
