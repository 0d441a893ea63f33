use Rattle.std.proofs.Common.{List, [], ◌∷◌}
use Rattle.std.specs.Option.{option_map}
use Rattle.tm_syntax.specs.declared.tree.Ident.{Ident}
use Rattle.tm_syntax.specs.Tree.View.{value_tree}
use Rattle.tm_syntax.specs.Scopes.Parts.{value_calls}
use Rattle.tm_scope.specs.Context.{context_of}
use Rattle.tm_names.specs.ScopeNames.{mark_of}
use Rattle.tm_types.proofs.UnknownPaths.{both_paths, one_path}
use Rattle.tm_types.proofs.unknown.bodies.unknown_in_local.Goals as goal

pub returns : goal.returns
returns c =
    let at = context_of c.args.site.now in
    let name : List Ident = c.args.local.now.name ∷ [] in
    both_paths at (name ∷ []) (value_calls (value_tree c.args.local.now.value))
    (option_map mark_of c.earlier_name.result)
    (c.earlier_name.ensures _ _
    (one_path at c.from_ref.result.now name (option_map mark_of c.unknown_path-in_name.result) c.from_ref.ensures.value
    c.unknown_path-in_name.ensures) c.unknown_in_value.ensures)
