use Rattle.std.specs.Option.{option_map}
use Rattle.tm_syntax.specs.Tree.{assign}
use Rattle.tm_syntax.specs.Tree.View.{expr_tree, value_tree}
use Rattle.tm_syntax.specs.Scopes.Parts.{bare_targets, value_calls}
use Rattle.tm_scope.specs.Context.{context_of}
use Rattle.tm_names.specs.ScopeNames.{mark_of}
use Rattle.tm_types.proofs.UnknownPaths.{both_paths}
use Rattle.tm_types.proofs.unknown.bodies.unknown_in_assignment.Goals as goal

pub returns : goal.returns
returns c =
    let value = value_tree c.args.value.now in
    let targets = bare_targets (assign c.args.path.now.names.items (option_map expr_tree c.args.index.now) value) in
    both_paths (context_of c.args.site.now) targets (value_calls value) (option_map mark_of c.earlier_name.result)
    (c.earlier_name.ensures _ _ (c.unknown_target.ensures value) c.unknown_in_value.ensures)
