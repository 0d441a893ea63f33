use Rattle.tm_solve.specs.Ids.{Follows}
use Rattle.tm_solve.specs.Inner.Rounds.{AreReached, IsLeveled, RoundSoFar}
use Rattle.tm_solve.specs.Narrowed.{narrowed}
use Rattle.tm_solve.proofs.rounds.play_round.Given as goal

abbrev pub invariant-loop-goal : goal.invariant-loop-goal
invariant-loop-goal g l = record {
  follows : Follows (g.P.Pre.game l.fn.pre) (g.P.Pre.ids l.fn.pre) (g.P.Pre.game l.pre) (g.P.Pre.ids l.pre);
  round : RoundSoFar (narrowed (g.P.Pre.game l.fn.pre) ((g.P.Pre.ids l.fn.pre).means l.z)) (g.P.Pre.ids l.pre)
      ((g.P.Pre.ids l.fn.pre).means l.z) l.goal l.region;
  reached : AreReached (narrowed (g.P.Pre.game l.fn.pre) ((g.P.Pre.ids l.fn.pre).means l.z)) (g.P.Pre.ids l.pre)
      ((g.P.Pre.ids l.fn.pre).means l.z) l.goal l.ranks.items;
  leveled : IsLeveled (g.P.Pre.game l.fn.pre) (g.P.Pre.ids l.fn.pre) l.z l.fn.levels.items →
      IsLeveled (g.P.Pre.game l.fn.pre) (g.P.Pre.ids l.pre) l.region l.levels.items;
}
