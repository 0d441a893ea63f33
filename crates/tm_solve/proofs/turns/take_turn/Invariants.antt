use Rattle.tm_solve.specs.Ids.{Follows}
use Rattle.tm_solve.specs.Inner.Turns.{IsRanked, TurnsSoFar}
use Rattle.tm_solve.specs.Narrowed.{narrowed}
use Rattle.tm_solve.proofs.turns.take_turn.Given as goal

abbrev pub invariant-loop-fair : goal.invariant-loop-fair
invariant-loop-fair g l = record {
  follows : Follows (g.P.Pre.game l.fn.pre) (g.P.Pre.ids l.fn.pre) (g.P.Pre.game l.pre) (g.P.Pre.ids l.pre);
  turns : TurnsSoFar (narrowed (g.P.Pre.game l.fn.pre) ((g.P.Pre.ids l.fn.pre).means l.z)) (g.P.Pre.ids l.pre)
      ((g.P.Pre.ids l.fn.pre).means l.z) ((g.P.Pre.ids l.fn.pre).means l.y) l.goal l.fair l.set l.chains.items;
  ranked : IsRanked (narrowed (g.P.Pre.game l.fn.pre) ((g.P.Pre.ids l.fn.pre).means l.z)) (g.P.Pre.ids l.pre)
      ((g.P.Pre.ids l.fn.pre).means l.z) l.goal l.set l.ranks.items;
}
