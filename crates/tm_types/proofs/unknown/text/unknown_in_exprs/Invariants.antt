use Rattle.std.proofs.Common.{◌≡◌}
use Rattle.std.specs.Option.{option_map}
use Rattle.tm_syntax.specs.Faults.Names.{unknown_in_expr}
use Rattle.tm_names.specs.ScopeNames.{mark_of}
use Rattle.tm_types.specs.Inner.TextParts.{expr_at}
use Rattle.tm_types.proofs.FoundNames.{found_before}
use Rattle.tm_types.proofs.unknown.text.unknown_in_exprs.Given as goal

abbrev pub invariant-loop-e : goal.invariant-loop-e
invariant-loop-e l = option_map mark_of l.first ≡ found_before unknown_in_expr (expr_at l.part.site) l.e-items l.e-index
