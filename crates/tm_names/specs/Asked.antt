-- What the code's expressions with the types that are asked for are as plain data.
use Rattle.std.specs.Prelude.{List, map}
use Rattle.std.specs.Option.{option_map}
use Rattle.tm_syntax.specs.Tree.{ExprTree, element}
use Rattle.tm_syntax.specs.Tree.View.{expr_tree}
use Rattle.tm_syntax.specs.Scopes.Parts as text
use Rattle.tm_scope.specs.Types.{ty_of}
use Rattle.tm_names.specs.declared.parts.asked.ExprPart.{ExprPart}
use Rattle.tm_names.specs.declared.parts.asked.ExprPart.TheVariants as part
use Rattle.tm_names.specs.declared.parts.asked.Asked.{Asked}

-- an expression
abbrev pub part_tree : ExprPart → ExprTree
part_tree (part.Whole e) = expr_tree e.now
part_tree (part.Element p e) = element p.now.names.items (expr_tree e.now)

-- an expression with the type that is asked for
abbrev pub asked_of : Asked → text.Asked
asked_of a = record { ty = option_map ty_of a.ty; expr = part_tree a.expr }

-- several expressions
abbrev pub all_asked : List Asked → List text.Asked
all_asked es = map asked_of es
