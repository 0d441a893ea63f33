use Rattle.std.proofs.Common.{◌≡◌}
use Rattle.tm_syntax.specs.Faults.Mismatches.{template_faults}
use Rattle.tm_types.specs.Inner.TextParts.{in_head}
use Rattle.tm_types.specs.declared.parts.TextHead.{TextHead}
use Rattle.tm_types.proofs.FoundPlaces.{found_before}
use Rattle.tm_types.proofs.mismatches.text.heads_faults.Given as goal

abbrev pub invariant-loop-head : goal.invariant-loop-head
invariant-loop-head l =
    l.first ≡ found_before (in_head template_faults) (λ (h : TextHead). h) l.heads l.head-index
