-- What a statement is as plain data, one equation for each variant: a fold does not compute at a variant.
use Rattle.std.proofs.Common.{◌≡◌, Option, map, sym, ap, ◌∙◌}
use mathlib.Core.List.{map-map}
use Rattle.std.specs.declared.vec.Vec.{Vec}
use Rattle.std.specs.declared.alloc.Global.{Global}
use Rattle.std.specs.Option.{option_map}
use Rattle.tm_base.specs.declared.place.Place.{Place}
use Rattle.tm_syntax.specs.declared.tree.Expr.{Expr}
use Rattle.tm_syntax.specs.declared.tree.Path.{Path}
use Rattle.tm_syntax.specs.declared.tree.Value.{Value}
use Rattle.tm_syntax.specs.declared.tree.Stmt.{Stmt, fold-roll-Stmt}
use Rattle.tm_syntax.specs.declared.tree.Stmt.TheVariants.{Assign, Call, If, While, Forever, Choice, Assert, Assume, Pause, Wait, Magic, rolls-Assign, rolls-Call, rolls-If, rolls-While, rolls-Forever, rolls-Choice, rolls-Assert, rolls-Assume, rolls-Pause, rolls-Wait, rolls-Magic}
use Rattle.tm_syntax.specs.Tree.{StmtTree, assign, invoke, branch, repeat, forever, choose, assert, assume, pause, wait, magic, row_of, alternatives_of}
use Rattle.tm_syntax.specs.Tree.View.{expr_tree, expr_trees, value_tree, stmt_step, stmt_tree, stmt_trees}

pub view-Assign : (p : Path) (i : Option Expr) (v : Value) →
    stmt_tree (Assign p i v) ≡ assign p.names.items (option_map expr_tree i) (value_tree v)
view-Assign p i v = ap stmt_tree (sym (rolls-Assign p i v)) ∙ fold-roll-Stmt StmtTree stmt_step _

pub view-Call : (p : Path) (args : Vec Expr Global) →
    stmt_tree (Call p args) ≡ invoke p.names.items (expr_trees args.items)
view-Call p args = ap stmt_tree (sym (rolls-Call p args)) ∙ fold-roll-Stmt StmtTree stmt_step _

pub view-If : (e : Expr) (a b : Vec Stmt Global) →
    stmt_tree (If e a b) ≡ branch (expr_tree e) (row_of (stmt_trees a.items)) (row_of (stmt_trees b.items))
view-If e a b = ap stmt_tree (sym (rolls-If e a b)) ∙ fold-roll-Stmt StmtTree stmt_step _

pub view-While : (at : Place) (e : Expr) (a : Vec Stmt Global) →
    stmt_tree (While at e a) ≡ repeat at (expr_tree e) (row_of (stmt_trees a.items))
view-While at e a = ap stmt_tree (sym (rolls-While at e a)) ∙ fold-roll-Stmt StmtTree stmt_step _

pub view-Forever : (at : Place) (a : Vec Stmt Global) →
    stmt_tree (Forever at a) ≡ forever at (row_of (stmt_trees a.items))
view-Forever at a = ap stmt_tree (sym (rolls-Forever at a)) ∙ fold-roll-Stmt StmtTree stmt_step _

pub view-Choice : (at : Place) (a : Vec (Vec Stmt Global) Global) →
    stmt_tree (Choice at a) ≡ choose at (alternatives_of (map (λ b. row_of (stmt_trees b.items)) a.items))
view-Choice at a =
    ap stmt_tree (sym (rolls-Choice at a)) ∙ fold-roll-Stmt StmtTree stmt_step _ ∙
    ap (λ bs. choose at (alternatives_of bs)) (map-map (λ (b : Vec StmtTree Global). row_of b.items) _ a.items)

pub view-Assert : (at : Place) (e : Expr) → stmt_tree (Assert at e) ≡ assert at (expr_tree e)
view-Assert at e = ap stmt_tree (sym (rolls-Assert at e)) ∙ fold-roll-Stmt StmtTree stmt_step _

pub view-Assume : (at : Place) (e : Expr) → stmt_tree (Assume at e) ≡ assume at (expr_tree e)
view-Assume at e = ap stmt_tree (sym (rolls-Assume at e)) ∙ fold-roll-Stmt StmtTree stmt_step _

pub view-Pause : (at : Place) → stmt_tree (Pause at) ≡ pause at
view-Pause at = ap stmt_tree (sym (rolls-Pause at)) ∙ fold-roll-Stmt StmtTree stmt_step _

pub view-Wait : (at : Place) (e : Expr) → stmt_tree (Wait at e) ≡ wait at (expr_tree e)
view-Wait at e = ap stmt_tree (sym (rolls-Wait at e)) ∙ fold-roll-Stmt StmtTree stmt_step _

pub view-Magic : (at : Place) → stmt_tree (Magic at) ≡ magic at
view-Magic at = ap stmt_tree (sym (rolls-Magic at)) ∙ fold-roll-Stmt StmtTree stmt_step _

-- the equations of a view, which a proof about statements needs
pub ruleset views = (
  view-Assign,
  view-Call,
  view-If,
  view-While,
  view-Forever,
  view-Choice,
  view-Assert,
  view-Assume,
  view-Pause,
  view-Wait,
  view-Magic,
)
