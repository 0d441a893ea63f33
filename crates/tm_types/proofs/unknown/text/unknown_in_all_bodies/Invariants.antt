use Rattle.std.proofs.Common.{◌≡◌}
use Rattle.std.specs.List.{flat_map}
use Rattle.std.specs.Option.{option_map}
use Rattle.tm_syntax.specs.Faults.Names.{unknown_in_body}
use Rattle.tm_names.specs.ScopeNames.{mark_of}
use Rattle.tm_types.specs.Inner.TextParts.{bodies_of}
use Rattle.tm_types.specs.declared.parts.TextPart.{TextPart}
use Rattle.tm_types.proofs.FoundNames.{found_before}
use Rattle.tm_types.proofs.unknown.text.unknown_in_all_bodies.Given as goal

abbrev pub invariant-loop-part : goal.invariant-loop-part
invariant-loop-part l =
    option_map mark_of l.first
    ≡ found_before (λ (p : TextPart). flat_map unknown_in_body (bodies_of p)) (λ p. p) l.parts l.part-index
