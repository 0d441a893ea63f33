use Rattle.std.proofs.Common.{◌≡◌}
use Rattle.std.specs.Option.{option_map}
use Rattle.tm_syntax.specs.declared.tree.Ident.{Ident}
use Rattle.tm_syntax.specs.Scopes.Declared.{members, sort_in}
use Rattle.tm_syntax.specs.Faults.Names.{undeclared}
use Rattle.tm_scope.specs.Context.{context_of}
use Rattle.tm_names.specs.ScopeNames.{mark_of}
use Rattle.tm_types.proofs.FoundNames.{found_before}
use Rattle.tm_types.proofs.unknown.declared.unknown_args.Given as goal

abbrev pub invariant-loop-arg : goal.invariant-loop-arg
invariant-loop-arg l =
    option_map mark_of l.first
    ≡ found_before (λ (a : Ident). undeclared (sort_in (members (context_of l.site).template) a.text) a) (λ a. a)
    l.args l.arg-index
