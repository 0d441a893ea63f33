use Rattle.tm_strat_drafts.specs.Growth.{Follows}
use Rattle.tm_strat_drafts.specs.Splits.{AreUniform}
use Rattle.tm_strat_drafts.proofs.splitting.first_split.Given as goal

abbrev pub invariant-loop-test : goal.invariant-loop-test
invariant-loop-test g l = record {
  follows : Follows (g.M.Moves.setting l.fn.moves) (g.M.Moves.setting l.moves);
  uniform : AreUniform (g.M.Moves.setting l.fn.moves).game ((g.M.Moves.setting l.fn.moves).ids.means l.set) l.test;
}
