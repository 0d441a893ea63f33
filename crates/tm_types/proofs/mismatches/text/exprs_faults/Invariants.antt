use Rattle.std.proofs.Common.{◌≡◌}
use Rattle.std.specs.List.{flat_map}
use Rattle.tm_syntax.specs.Faults.Mismatches.{asked_faults}
use Rattle.tm_types.specs.Inner.TextParts.{exprs_of}
use Rattle.tm_types.specs.declared.parts.TextPart.{TextPart}
use Rattle.tm_types.proofs.FoundPlaces.{found_before}
use Rattle.tm_types.proofs.mismatches.text.exprs_faults.Given as goal

abbrev pub invariant-loop-part : goal.invariant-loop-part
invariant-loop-part l =
    l.first ≡ found_before (λ (p : TextPart). flat_map asked_faults (exprs_of p)) (λ p. p) l.parts l.part-index
