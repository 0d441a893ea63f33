use Rattle.std.proofs.Common.{ℕ}
use Rattle.tm_strat_drafts.specs.Drafts.{HasRoots}
use Rattle.tm_strat_drafts.specs.Growth.{at_goal, Follows}
use Rattle.tm_strat_drafts.proofs.goals.strategies.Given as goal

abbrev pub invariant-loop-goal : goal.invariant-loop-goal
invariant-loop-goal g l = record {
  pending : ℕ;
  follows : Follows (at_goal pending (g.M.Moves.setting l.fn.moves)) (g.M.Moves.setting l.moves);
  roots : HasRoots (g.M.Moves.setting l.fn.moves).game l.drafts.items l.root l.goal;
}
