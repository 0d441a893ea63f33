use Rattle.std.proofs.Common.{◌≡◌}
use Rattle.std.specs.Option.{option_map}
use Rattle.tm_syntax.specs.Faults.Names.{unknown_in_template}
use Rattle.tm_names.specs.ScopeNames.{mark_of}
use Rattle.tm_types.specs.Inner.TextParts.{in_head}
use Rattle.tm_types.specs.declared.parts.TextHead.{TextHead}
use Rattle.tm_types.proofs.FoundNames.{found_before}
use Rattle.tm_types.proofs.unknown.text.unknown_in_heads.Given as goal

abbrev pub invariant-loop-head : goal.invariant-loop-head
invariant-loop-head l =
    option_map mark_of l.first
    ≡ found_before (in_head unknown_in_template) (λ (h : TextHead). h) l.heads l.head-index
