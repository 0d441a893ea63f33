use Rattle.std.proofs.Common.{◌++◌, ap, ◌∙◌}
use Rattle.std.specs.Prelude.{unwrap_or}
use Rattle.tm_syntax.specs.Counts.Choices.{path_sums}
use Rattle.tm_limits.proofs.BestPaths.{best_or_none, greater_by}
use Rattle.tm_limits.proofs.paths.Paths.greatest.Goals as goal

pub returns : goal.returns
returns c = λ p kept.
    c.unwrap_or.ensures
    ∙ ap (λ o. unwrap_or o 0)
    (greater_by _ _ _ (p.across ++ p.inward ++ p.outward) p.between c.greater-2.ensures
    (greater_by _ _ _ (p.across ++ p.inward) p.outward c.greater-ahead.ensures
    (greater_by _ _ _ p.across p.inward c.greater.ensures kept.across kept.inward) kept.outward) kept.between)
    ∙ best_or_none (path_sums p)
