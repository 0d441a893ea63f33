use Rattle.std.proofs.Common.{refl}
use Rattle.tm_syntax.specs.Counts.Choices.{joined}
use Rattle.tm_limits.proofs.BestPaths.{greater_by, joined_by}
use Rattle.tm_limits.proofs.paths.Paths.again.Goals as goal

pub returns : goal.returns
returns c = λ p turn. record {
  across = refl;
  inward = turn.inward;
  outward = refl;
  between = greater_by _ _ _ p.between (joined p.outward p.inward) c.greater.ensures turn.between
      (joined_by _ _ _ p.outward p.inward c.joined.ensures turn.outward turn.inward);
}
