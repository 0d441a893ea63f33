use Rattle.tm_syntax.specs.Counts.Choices.{joined}
use Rattle.tm_limits.proofs.BestPaths.{best_none, greater_by, joined_by}
use Rattle.tm_limits.proofs.paths.Paths.leavable.Goals as goal

pub returns : goal.returns
returns c = λ p turn. record {
  across = best_none;
  inward = turn.inward;
  outward = turn.outward;
  between = greater_by _ _ _ p.between (joined p.outward p.inward) c.greater.ensures turn.between
      (joined_by _ _ _ p.outward p.inward c.joined.ensures turn.outward turn.inward);
}
