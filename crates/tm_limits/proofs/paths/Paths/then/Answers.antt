use Rattle.std.proofs.Common.{◌++◌}
use Rattle.tm_syntax.specs.Counts.Choices.{joined}
use Rattle.tm_limits.proofs.BestPaths.{greater_by, joined_by}
use Rattle.tm_limits.proofs.paths.Paths.then.Goals as goal

pub returns : goal.returns
returns c = λ p q first second. record {
  across = joined_by _ _ _ p.across q.across c.joined.ensures first.across second.across;
  inward = greater_by _ _ _ p.inward (joined p.across q.inward) c.greater.ensures first.inward
      (joined_by _ _ _ p.across q.inward c.joined-2.ensures first.across second.inward);
  outward = greater_by _ _ _ q.outward (joined p.outward q.across) c.greater-2.ensures second.outward
      (joined_by _ _ _ p.outward q.across c.joined-3.ensures first.outward second.across);
  between = greater_by _ _ _ (p.between ++ q.between) (joined p.outward q.inward) c.greater-4.ensures
      (greater_by _ _ _ p.between q.between c.greater-3.ensures first.between second.between)
      (joined_by _ _ _ p.outward q.inward c.joined-4.ensures first.outward second.inward);
}
