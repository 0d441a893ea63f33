-- What a statement is whose lists are handed on as slices, and what the statements of a slice are.
use Rattle.std.proofs.Common.{◌≡◌, Option, List, map, sym, ap, ◌∙◌}
use Rattle.std.specs.Option.{option_map}
use Rattle.std.specs.declared.alloc.Global.{Global}
use Rattle.std.specs.declared.vec.Vec.{Vec}
use Rattle.tm_base.specs.declared.place.Place.{Place}
use Rattle.tm_syntax.specs.declared.tree.Expr.{Expr}
use Rattle.tm_syntax.specs.declared.tree.Ident.{Ident}
use Rattle.tm_syntax.specs.declared.tree.Path.{Path}
use Rattle.tm_syntax.specs.declared.tree.Stmt.{Stmt}
use Rattle.tm_syntax.specs.declared.tree.Stmt.TheVariants.{Assign, Call, Choice, Forever, If, While}
use Rattle.tm_syntax.specs.declared.tree.Value.{Value}
use Rattle.tm_syntax.specs.Tree.{StmtRow, alternatives_of, assign, branch, choose, forever, invoke, repeat, row_of}
use Rattle.tm_syntax.specs.Tree.View.{expr_tree, expr_trees, stmt_tree, stmt_trees, value_tree}
use Rattle.tm_syntax.proofs.Views.{view-Assign, view-Call, view-Choice, view-Forever, view-If, view-While}

pub assign_shape : {s : Stmt} {p : Path} {index : Option Expr} {v : Value} {names : List Ident} → s ≡ Assign p index v →
    names ≡ p.names.items → stmt_tree s ≡ assign names (option_map expr_tree index) (value_tree v)
assign_shape {s} {p} {index} {v} {names} is same =
    ap stmt_tree is ∙ view-Assign p index v
    ∙ ap (λ ns. assign ns (option_map expr_tree index) (value_tree v)) (sym same)

pub call_shape : {s : Stmt} {p : Path} {args : Vec Expr Global} {names : List Ident} {es : List Expr} → s ≡ Call p
    args →
    names ≡ p.names.items → es ≡ args.items → stmt_tree s ≡ invoke names (expr_trees es)
call_shape {s} {p} {args} {names} {es} is same each =
    ap stmt_tree is ∙ view-Call p args ∙ (λ i. invoke (sym same i) (expr_trees (sym each i)))

pub branch_shape : {s : Stmt} {e : Expr} (first second : Vec Stmt Global) {a b : List Stmt} →
    s ≡ If e first second → a ≡ first.items → b ≡ second.items →
    stmt_tree s ≡ branch (expr_tree e) (row_of (stmt_trees a)) (row_of (stmt_trees b))
branch_shape {s} {e} first second {a} {b} is one other =
    ap stmt_tree is ∙ view-If e first second
    ∙ (λ i. branch (expr_tree e) (row_of (stmt_trees (sym one i))) (row_of (stmt_trees (sym other i))))

pub repeat_shape : {s : Stmt} {at : Place} {e : Expr} (body : Vec Stmt Global) {a : List Stmt} → s ≡ While at e body →
    a ≡ body.items → stmt_tree s ≡ repeat at (expr_tree e) (row_of (stmt_trees a))
repeat_shape {s} {at} {e} body {a} is same =
    ap stmt_tree is ∙ view-While at e body
    ∙ ap (λ ss. repeat at (expr_tree e) (row_of (stmt_trees ss))) (sym same)

pub forever_shape : {s : Stmt} {at : Place} (body : Vec Stmt Global) {a : List Stmt} → s ≡ Forever at body →
    a ≡ body.items → stmt_tree s ≡ forever at (row_of (stmt_trees a))
forever_shape {s} {at} body {a} is same =
    ap stmt_tree is ∙ view-Forever at body ∙ ap (λ ss. forever at (row_of (stmt_trees ss))) (sym same)

-- the rows of blocks
abbrev pub block_rows : List (Vec Stmt Global) → List StmtRow
block_rows blocks = map (λ (b : Vec Stmt Global). row_of (stmt_trees b.items)) blocks

pub choose_shape : {s : Stmt} {at : Place} (blocks : Vec (Vec Stmt Global) Global) {bs : List (Vec Stmt Global)} →
    s ≡ Choice at blocks → bs ≡ blocks.items → stmt_tree s ≡ choose at (alternatives_of (block_rows bs))
choose_shape {s} {at} blocks {bs} is same =
    ap stmt_tree is ∙ view-Choice at blocks ∙ ap (λ bs. choose at (alternatives_of (block_rows bs))) (sym same)
