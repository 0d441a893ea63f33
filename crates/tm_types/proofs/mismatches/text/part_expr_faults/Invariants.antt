use Rattle.std.proofs.Common.{◌≡◌}
use Rattle.tm_syntax.specs.Faults.Mismatches.{asked_faults}
use Rattle.tm_types.specs.Inner.TextParts.{expr_at}
use Rattle.tm_types.proofs.FoundPlaces.{found_before}
use Rattle.tm_types.proofs.mismatches.text.part_expr_faults.Given as goal

abbrev pub invariant-loop-e : goal.invariant-loop-e
invariant-loop-e l = l.first ≡ found_before asked_faults (expr_at l.part.site) l.e-items l.e-index
