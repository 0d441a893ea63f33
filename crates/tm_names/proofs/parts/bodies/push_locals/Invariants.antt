use Rattle.std.proofs.Common.{◌≡◌, ◌++◌, drop}
use Rattle.std.specs.List.{flat_map}
use Rattle.tm_syntax.specs.declared.tree.LocalDef.{LocalDef}
use Rattle.tm_syntax.specs.Tree.View.{local_tree}
use Rattle.tm_syntax.specs.Scopes.Parts.{stmt_exprs}
use Rattle.tm_scope.specs.Context.{context_of}
use Rattle.tm_names.specs.Asked.{all_asked}
use Rattle.tm_names.specs.LocalStmts.{declaration}
use Rattle.tm_names.proofs.parts.bodies.push_locals.Given as goal

abbrev pub invariant-loop-local : goal.invariant-loop-local
invariant-loop-local l =
    all_asked l.asked.items
    ++ flat_map (λ (d : LocalDef). stmt_exprs (context_of l.site) (declaration (local_tree d)))
    (drop l.local-index l.locals)
    ≡ all_asked l.initial.asked.items
    ++ flat_map (λ (d : LocalDef). stmt_exprs (context_of l.site) (declaration (local_tree d))) l.locals
