use Rattle.tm_limits.proofs.BestPaths.{greater_by}
use Rattle.tm_limits.proofs.paths.Paths.or.Goals as goal

pub returns : goal.returns
returns c = λ p q first second. record {
  across = greater_by _ _ _ p.across q.across c.greater.ensures first.across second.across;
  inward = greater_by _ _ _ p.inward q.inward c.greater-2.ensures first.inward second.inward;
  outward = greater_by _ _ _ p.outward q.outward c.greater-3.ensures first.outward second.outward;
  between = greater_by _ _ _ p.between q.between c.greater-4.ensures first.between second.between;
}
