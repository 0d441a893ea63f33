-- The parts of a text: its bodies, their statements, and the expressions with the types that their places ask for.
use Rattle.std.specs.Prelude.{ℕ, Option, None, Some, List, [], ◌∷◌, ◌++◌, map, slice_get}
use Rattle.std.specs.Option.{option_map, option_and_then, option_map_or, option_to_list}
use Rattle.std.specs.List.{flat_map, enumerate_from}
use Rattle.tm_syntax.specs.declared.tree.Ident.{Ident}
use Rattle.tm_syntax.specs.declared.tree.Param.{Param}
use Rattle.tm_syntax.specs.declared.tree.TypeName.{TypeName}
use Rattle.tm_syntax.specs.declared.tree.TaskKind.{TaskKind}
use Rattle.tm_syntax.specs.declared.tree.TaskKind.TheVariants.{Procedure}
use Rattle.tm_syntax.specs.declared.design.Ty.{Ty}
use Rattle.tm_syntax.specs.declared.design.Ty.TheVariants as types
use Rattle.tm_syntax.specs.Tree.{ExprTree, element, ValueTree, star, result, plain, StmtTree, assign, invoke, branch, repeat, forever, choose, assert, assume, pause, wait, magic, StmtRow, nothing, then, BlockRow, nowhere, or_else, BodyTree, LocalTree, VarTree, NamedTree, ProcessTree, TaskTree, TemplateTree, SpecTree}
use Rattle.tm_syntax.specs.Scopes.Names.{type_of}
use Rattle.tm_syntax.specs.Scopes.Pauses.{task_reached}
use Rattle.tm_syntax.specs.Scopes.Context.{Context, BodyName, process_body, task_body, outside}
use Rattle.tm_syntax.specs.Scopes.Types.{named_type}

-- a body, and where it stands
pub record BodyAt : Type 0 where
  pub context : Context
  pub body : BodyTree

-- the body of a process
abbrev pub process_body_at : SpecTree → TemplateTree → ℕ × ProcessTree → BodyAt
process_body_at spec t p =
    record { context = record { spec = spec; template = t; body = process_body p.0 }; body = p.1.body }

-- the body of a task or procedure
abbrev pub task_body_at : SpecTree → TemplateTree → ℕ × TaskTree → BodyAt
task_body_at spec t k = record { context = record { spec = spec; template = t; body = task_body k.0 }; body = k.1.body }

-- the bodies of a template
abbrev pub template_bodies : SpecTree → TemplateTree → List BodyAt
template_bodies spec t =
    map (process_body_at spec t) (enumerate_from 0 t.processes) ++ map (task_body_at spec t) (enumerate_from 0 t.tasks)

-- the bodies of a text
abbrev pub bodies : SpecTree → List BodyAt
bodies spec = flat_map (template_bodies spec) spec.templates

-- the statements within a statement, in text order
abbrev mutual
  pub inner_stmts : StmtTree → List StmtTree
  inner_stmts (assign _ _ _) = []
  inner_stmts (invoke _ _) = []
  inner_stmts (branch _ first second) = row_stmts first ++ row_stmts second
  inner_stmts (repeat _ _ body) = row_stmts body
  inner_stmts (forever _ body) = row_stmts body
  inner_stmts (choose _ blocks) = block_stmts blocks
  inner_stmts (assert _ _) = []
  inner_stmts (assume _ _) = []
  inner_stmts (pause _) = []
  inner_stmts (wait _ _) = []
  inner_stmts (magic _) = []

  pub row_stmts : StmtRow → List StmtTree
  row_stmts nothing = []
  row_stmts (then first others) = first ∷ inner_stmts first ++ row_stmts others

  pub block_stmts : BlockRow → List StmtTree
  block_stmts nowhere = []
  block_stmts (or_else first others) = row_stmts first ++ block_stmts others

-- a local's declaration is an assignment that stands before the statements of its body
abbrev pub body_stmts : BodyTree → List StmtTree
body_stmts body = map (λ l. assign (l.name ∷ []) None l.value) body.locals ++ body.stmts

-- statements with those within them, in text order
abbrev pub all_stmts : List StmtTree → List StmtTree
all_stmts ss = flat_map (λ s. s ∷ inner_stmts s) ss

-- all statements of a body in text order; a local's declaration is one, and assigns to it
abbrev pub stmts_in : BodyTree → List StmtTree
stmts_in body = all_stmts (body_stmts body)

-- the path that a value calls
abbrev pub value_calls : ValueTree → List (List Ident)
value_calls (star _) = []
value_calls (result path _) = path ∷ []
value_calls (plain _) = []

-- the path that a statement calls itself, apart from the statements within it
abbrev pub own_calls : StmtTree → List (List Ident)
own_calls (assign _ _ value) = value_calls value
own_calls (invoke path _) = path ∷ []
own_calls _ = []

-- the path that a statement assigns to, where it has no index
abbrev pub bare_targets : StmtTree → List (List Ident)
bare_targets (assign names None _) = names ∷ []
bare_targets _ = []

-- an expression with the type that its place asks for, if it asks for one
pub record Asked : Type 0 where
  pub ty : Option Ty
  pub expr : ExprTree

-- an expression whose place asks for nothing
abbrev pub unasked : ExprTree → Asked
unasked e = record { ty = None; expr = e }

-- a condition: its place asks for a bool
abbrev pub condition : ExprTree → Asked
condition e = record { ty = Some types.Bool; expr = e }

-- arguments: each is asked for its parameter's type
abbrev pub asked_args : List Param → List ExprTree → List Asked
asked_args params [] = []
asked_args [] (e ∷ es) = unasked e ∷ asked_args [] es
asked_args (p ∷ params) (e ∷ es) = record { ty = Some (type_of p.ty); expr = e } ∷ asked_args params es

-- the arguments of a call
abbrev pub call_args : Context → List Ident → List ExprTree → List Asked
call_args c path es = asked_args (option_map_or (λ k. k.1.params) (task_reached c.spec c.template path) []) es

-- the expressions of a value for which a type is asked
abbrev pub value_exprs : Context → Option Ty → ValueTree → List Asked
value_exprs c ty (star _) = []
value_exprs c ty (result path es) = call_args c path es
value_exprs c ty (plain e) = record { ty = ty; expr = e } ∷ []

-- the element to which a statement assigns
abbrev pub target_exprs : List Ident → Option ExprTree → List Asked
target_exprs names None = []
target_exprs names (Some index) = unasked (element names index) ∷ []

-- the expressions that stand in a statement itself, apart from the statements within it
abbrev pub stmt_exprs : Context → StmtTree → List Asked
stmt_exprs c (assign names index v) = target_exprs names index ++ value_exprs c (named_type c names) v
stmt_exprs c (invoke path es) = call_args c path es
stmt_exprs c (branch e _ _) = condition e ∷ []
stmt_exprs c (repeat _ e _) = condition e ∷ []
stmt_exprs c (forever _ _) = []
stmt_exprs c (choose _ _) = []
stmt_exprs c (assert _ e) = condition e ∷ []
stmt_exprs c (assume _ e) = condition e ∷ []
stmt_exprs c (pause _) = []
stmt_exprs c (wait _ e) = condition e ∷ []
stmt_exprs c (magic _) = []

-- the type of a procedure's result as it is written
abbrev pub written_result : TaskKind → Option TypeName
written_result (Procedure ty) = ty
written_result _ = None

-- the type that a body's result is asked for
abbrev pub result_asked : TemplateTree → BodyName → Option Ty
result_asked t (task_body k) =
    option_and_then (λ task. option_map type_of (written_result task.kind)) (slice_get t.tasks k)
result_asked t (process_body _) = None
result_asked t outside = None

-- the expressions of a body
abbrev pub body_exprs : BodyAt → List Asked
body_exprs b =
    flat_map (stmt_exprs b.context) (stmts_in b.body)
    ++ map (λ e. record { ty = result_asked b.context.template b.context.body; expr = e })
    (option_to_list b.body.answer)

-- an expression, and where it stands
pub record ExprAt : Type 0 where
  pub context : Context
  pub asked : Asked

-- the expressions of a template: those of its bodies, goals and fairness conditions
abbrev pub template_exprs : SpecTree → TemplateTree → List ExprAt
template_exprs spec t =
    flat_map (λ b. map (λ e. record { context = b.context; asked = e }) (body_exprs b)) (template_bodies spec t)
    ++ map (λ (n : NamedTree). record {
      context = record { spec = spec; template = t; body = outside };
      asked = condition n.expr;
    }) (t.goals ++ t.fairs)

-- the expressions of a text, apart from initial literals
abbrev pub exprs : SpecTree → List ExprAt
exprs spec = flat_map (template_exprs spec) spec.templates

-- the types that a template's text writes
abbrev pub template_types : TemplateTree → List TypeName
template_types t =
    map (λ (v : VarTree). v.ty) t.vars
    ++ flat_map (λ (p : ProcessTree). map (λ (l : LocalTree). l.ty) p.body.locals) t.processes
    ++ flat_map (λ (k : TaskTree). option_to_list (written_result k.kind) ++ map (λ (p : Param). p.ty) k.params
    ++ map (λ (l : LocalTree). l.ty) k.body.locals) t.tasks
