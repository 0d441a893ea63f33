use Rattle.std.proofs.Common.{◌≡◌}
use Rattle.std.specs.Borrow.{Bor}
use Rattle.std.specs.Option.{option_map}
use Rattle.tm_syntax.specs.declared.tree.TypeName.{TypeName}
use Rattle.tm_syntax.specs.Tree.View.{spec_tree}
use Rattle.tm_syntax.specs.Faults.Names.{unknown_type}
use Rattle.tm_names.specs.ScopeNames.{mark_of}
use Rattle.tm_types.proofs.FoundNames.{found_before}
use Rattle.tm_types.proofs.unknown.declared.unknown_types.Given as goal

abbrev pub invariant-loop-ty : goal.invariant-loop-ty
invariant-loop-ty l =
    option_map mark_of l.first
    ≡ found_before (unknown_type (spec_tree l.names)) (λ (ty : Bor TypeName). ty.now) l.types l.ty-index
