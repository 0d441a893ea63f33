use Rattle.std.proofs.Common.{◌≡◌}
use Rattle.std.specs.Option.{option_map}
use Rattle.tm_syntax.specs.Tree.{LocalTree}
use Rattle.tm_syntax.specs.Tree.View.{local_tree}
use Rattle.tm_scope.specs.Context.{context_of}
use Rattle.tm_names.specs.LocalStmts.{declaration}
use Rattle.tm_types.specs.Inner.UnknownParts.{unknown_in_stmt}
use Rattle.tm_names.specs.ScopeNames.{mark_of}
use Rattle.tm_types.proofs.FoundNames.{found_before}
use Rattle.tm_types.proofs.unknown.bodies.unknown_in_locals.Given as goal

abbrev pub invariant-loop-local : goal.invariant-loop-local
invariant-loop-local l =
    option_map mark_of l.first
    ≡ found_before (λ (d : LocalTree). unknown_in_stmt (context_of l.site) (declaration d)) local_tree l.locals
    l.local-index
