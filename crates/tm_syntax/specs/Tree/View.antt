-- What the code's trees are as plain data.
use Rattle.std.specs.Prelude.{List, map}
use Rattle.std.specs.Option.{option_map}
use Rattle.tm_syntax.specs.declared.tree.Expr.{Expr, Truth, Number, Path, Group', Unary', Binary', Shift', Conditional', Cast', Element'}
use Rattle.tm_syntax.specs.declared.tree.Value.{Value}
use Rattle.tm_syntax.specs.declared.tree.Value.TheVariants.{Star, Call, Plain}
use Rattle.tm_syntax.specs.declared.tree.Stmt.{Stmt, Stmt-F, fold-Stmt}
use Rattle.tm_syntax.specs.declared.tree.Stmt.TheOpen as open_stmt
use Rattle.tm_syntax.specs.declared.tree.LocalDef.{LocalDef}
use Rattle.tm_syntax.specs.declared.tree.Body.{Body}
use Rattle.tm_syntax.specs.declared.tree.VarDef.{VarDef}
use Rattle.tm_syntax.specs.declared.tree.Named.{Named}
use Rattle.tm_syntax.specs.declared.tree.ProcessDef.{ProcessDef}
use Rattle.tm_syntax.specs.declared.tree.TaskDef.{TaskDef}
use Rattle.tm_syntax.specs.declared.tree.InstanceDef.{InstanceDef}
use Rattle.tm_syntax.specs.declared.tree.EnumDef.{EnumDef}
use Rattle.tm_syntax.specs.declared.tree.Template.{Template}
use Rattle.tm_syntax.specs.declared.tree.Spec.{Spec}
use Rattle.tm_syntax.specs.Tree.{ExprTree, truth, number, path, group, unary, binary, shift, conditional, cast, element, ValueTree, star, result, plain, StmtTree, assign, invoke, branch, repeat, forever, choose, assert, assume, pause, wait, magic, row_of, alternatives_of, LocalTree, BodyTree, VarTree, NamedTree, ProcessTree, TaskTree, InstanceTree, EnumTree, TemplateTree, SpecTree}

-- an expression
abbrev pub expr_tree : Expr → ExprTree
expr_tree (Truth at value) = truth at value
expr_tree (Number n) = number n
expr_tree (Path p) = path p.names.items
expr_tree (Group' at _ e) = group at (expr_tree e)
expr_tree (Unary' at op _ e) = unary at op (expr_tree e)
expr_tree (Binary' at op _ a _ b) = binary at op (expr_tree a) (expr_tree b)
expr_tree (Shift' at op _ e by) = shift at op (expr_tree e) by
expr_tree (Conditional' at _ e _ a _ b) = conditional at (expr_tree e) (expr_tree a) (expr_tree b)
expr_tree (Cast' at to _ e) = cast at to (expr_tree e)
expr_tree (Element' p _ e) = element p.names.items (expr_tree e)

-- several expressions
abbrev pub expr_trees : List Expr → List ExprTree
expr_trees es = map expr_tree es

-- what is assigned
abbrev pub value_tree : Value → ValueTree
value_tree (Star at) = star at
value_tree (Call p args) = result p.names.items (expr_trees args.items)
value_tree (Plain e) = plain (expr_tree e)

-- a statement, given what its inner statements are
abbrev pub stmt_step : Stmt-F StmtTree → StmtTree
stmt_step (open_stmt.Assign p i v) = assign p.names.items (option_map expr_tree i) (value_tree v)
stmt_step (open_stmt.Call p args) = invoke p.names.items (expr_trees args.items)
stmt_step (open_stmt.If e a b) = branch (expr_tree e) (row_of a.items) (row_of b.items)
stmt_step (open_stmt.While at e a) = repeat at (expr_tree e) (row_of a.items)
stmt_step (open_stmt.Forever at a) = forever at (row_of a.items)
stmt_step (open_stmt.Choice at a) = choose at (alternatives_of (map (λ b. row_of b.items) a.items))
stmt_step (open_stmt.Assert at e) = assert at (expr_tree e)
stmt_step (open_stmt.Assume at e) = assume at (expr_tree e)
stmt_step (open_stmt.Pause at) = pause at
stmt_step (open_stmt.Wait at e) = wait at (expr_tree e)
stmt_step (open_stmt.Magic at) = magic at

-- a statement
abbrev pub stmt_tree : Stmt → StmtTree
stmt_tree s = fold-Stmt StmtTree stmt_step s

-- several statements
abbrev pub stmt_trees : List Stmt → List StmtTree
stmt_trees ss = map stmt_tree ss

-- the declaration of a local
abbrev pub local_tree : LocalDef → LocalTree
local_tree d = record { ty = d.ty; name = d.name; value = value_tree d.value }

-- a body
abbrev pub body_tree : Body → BodyTree
body_tree b = record {
  locals = map local_tree b.locals.items;
  stmts = stmt_trees b.stmts.items;
  answer = option_map expr_tree b.answer;
}

-- a template variable
abbrev pub var_tree : VarDef → VarTree
var_tree d = record { ty = d.ty; name = d.name; size = d.length; init = option_map expr_tree d.init }

-- a goal or a fairness condition
abbrev pub named_tree : Named → NamedTree
named_tree d = record { name = d.name; expr = expr_tree d.expr }

-- a process
abbrev pub process_tree : ProcessDef → ProcessTree
process_tree d = record { lazy = d.lazy; name = d.name; body = body_tree d.body }

-- a task or a procedure
abbrev pub task_tree : TaskDef → TaskTree
task_tree d = record { kind = d.kind; name = d.name; params = d.params.items; body = body_tree d.body }

-- an instance
abbrev pub instance_tree : InstanceDef → InstanceTree
instance_tree d = record { template = d.template; name = d.name; args = d.args.items }

-- an enum
abbrev pub enum_tree : EnumDef → EnumTree
enum_tree d = record { name = d.name; constants = d.constants.items }

-- a template
abbrev pub template_tree : Template → TemplateTree
template_tree t = record {
  name = t.name;
  ports = t.ports.items;
  instances = map instance_tree t.instances.items;
  vars = map var_tree t.vars.items;
  goals = map named_tree t.goals.items;
  fairs = map named_tree t.fairs.items;
  processes = map process_tree t.processes.items;
  tasks = map task_tree t.tasks.items;
}

-- a specification
abbrev pub spec_tree : Spec → SpecTree
spec_tree s = record { enums = map enum_tree s.enums.items; templates = map template_tree s.templates.items }
