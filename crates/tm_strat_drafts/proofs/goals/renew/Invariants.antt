use Rattle.std.proofs.Common.{◌≡◌, length}
use Rattle.tm_strat_drafts.specs.Drafts.{AreDrafts, blocks_of}
use Rattle.tm_strat_drafts.specs.Growth.{Follows}
use Rattle.tm_strat_drafts.proofs.Renewing.{AreCopied}
use Rattle.tm_strat_drafts.proofs.goals.renew.Given as goal

abbrev pub invariant-loop-at : goal.invariant-loop-at
invariant-loop-at g l = record {
  follows : Follows (g.M.Moves.setting l.fn.moves) (g.M.Moves.setting l.moves);
  drafts : AreDrafts (g.M.Moves.setting l.fn.moves).game (g.M.Moves.setting l.moves).ids l.renewed.items;
  count : length l.renewed.items ≡ l.at;
  copied : AreCopied l.drafts (blocks_of l.renewed.items) l.at;
}
