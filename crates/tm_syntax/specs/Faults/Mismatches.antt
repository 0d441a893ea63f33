-- F6: a type, a sort of name, a number of arguments or a result does not fit.
use Rattle.std.specs.Prelude.{ℕ, Bool, true, false, not, ◌||◌, ◌&&◌, Option, None, Some, List, [], ◌∷◌, ◌++◌, length, is_some, is_none, nat_eq, codes}
use Rattle.std.specs.Option.{option_map_or, option_to_list}
use Rattle.std.specs.List.{flat_map, zip}
use Rattle.tm_base.specs.declared.place.Place.{Place}
use Rattle.tm_syntax.specs.declared.tree.Ident.{Ident}
use Rattle.tm_syntax.specs.declared.tree.Port.{Port}
use Rattle.tm_syntax.specs.declared.tree.TypeName.{TypeName}
use Rattle.tm_syntax.specs.declared.tree.TypeName.TheVariants as written
use Rattle.tm_syntax.specs.declared.tree.TaskKind.{TaskKind}
use Rattle.tm_syntax.specs.declared.tree.TaskKind.TheVariants.{Procedure}
use Rattle.tm_syntax.specs.declared.design.Ty.{Ty}
use Rattle.tm_syntax.specs.declared.design.Ty.TheVariants as types
use Rattle.tm_syntax.specs.Tree.{ExprTree, truth, number, path, ValueTree, star, result, plain, StmtTree, assign, invoke, InstanceTree, VarTree, TaskTree, TemplateTree, SpecTree}
use Rattle.tm_syntax.specs.Scopes.Names.{is_spelled, type_of}
use Rattle.tm_syntax.specs.Scopes.Pauses.{is_controllable, task_reached}
use Rattle.tm_syntax.specs.Scopes.Context.{Context}
use Rattle.tm_syntax.specs.Scopes.Types.{named_type, constant_type, own_type}
use Rattle.tm_syntax.specs.Scopes.Declared.{Sort, a_neighbor, an_enum, a_template, members, sort_in, text_sort, template_in, meaning}
use Rattle.tm_syntax.specs.Scopes.Parts.{BodyAt, bodies, stmts_in, bare_targets, ExprAt, exprs, template_types}
use Rattle.tm_syntax.specs.Places.{text_start}
use Rattle.tm_syntax.specs.Faults.Marks.{place_unless}
use Rattle.tm_syntax.specs.Faults.Operands.{same_type, is_uint, path_place, expr_place, wrong_sort, is_assigned, is_called, expr_faults, value_faults}

-- a name that is declared, as something else than is wanted
abbrev pub misnamed : (Sort → Bool) → Option Sort → Ident → List Place
misnamed suits None name = []
misnamed suits (Some sort) name = place_unless (suits sort) name.place

-- whether a name is that of an enum
abbrev pub is_enum : Sort → Bool
is_enum an_enum = true
is_enum _ = false

-- whether a name is that of a template
abbrev pub is_template : Sort → Bool
is_template (a_template _) = true
is_template _ = false

-- a type is an enum's name
abbrev pub type_faults : SpecTree → TypeName → List Place
type_faults spec (written.Enum name) = misnamed is_enum (text_sort spec name.text) name
type_faults spec _ = []

-- whether an initial literal fits its variable: a truth a bool, a number a `uint`, and a constant its enum
abbrev pub literal_fits : SpecTree → Ty → ExprTree → Bool
literal_fits spec ty (truth _ _) = same_type ty types.Bool
literal_fits spec ty (number _) = is_uint ty
literal_fits spec ty (path names) = option_map_or (same_type ty) (constant_type spec names) false
literal_fits spec ty _ = false

-- an initial literal that does not fit
abbrev pub var_faults : SpecTree → VarTree → List Place
var_faults spec v =
    flat_map (λ e. place_unless (literal_fits spec (type_of v.ty) e) (expr_place e)) (option_to_list v.init)

-- whether this is an instance or port of the template of a name
abbrev pub is_instance_of : Ident → Sort → Bool
is_instance_of template (a_neighbor other) = is_spelled template.text other
is_instance_of template _ = false

-- an argument of an instance is an instance or port, of its port's template
abbrev pub arg_faults : TemplateTree → Port × Ident → List Place
arg_faults t p = misnamed (is_instance_of p.0.template) (sort_in (members t) p.1.text) p.1

-- an instance has as many arguments as its template has ports
abbrev pub args_faults : TemplateTree → InstanceTree → TemplateTree → List Place
args_faults t i of =
    place_unless (nat_eq (length of.ports) (length i.args)) i.name.place
    ++ flat_map (arg_faults t) (zip of.ports i.args)

-- an instance is one of a template
abbrev pub instance_faults : SpecTree → TemplateTree → InstanceTree → List Place
instance_faults spec t i =
    misnamed is_template (text_sort spec i.template.text) i.template
    ++ option_map_or (args_faults t i) (template_in (text_sort spec i.template.text)) []

-- whether a body has a result exactly where its procedure has a type
abbrev pub result_fits : TaskKind → Option ExprTree → Bool
result_fits (Procedure (Some _)) answer = is_some answer
result_fits _ answer = is_none answer

-- a typed procedure without `return`, or a void one with it
abbrev pub task_faults : TaskTree → List Place
task_faults k = place_unless (result_fits k.kind k.body.answer) k.name.place

-- in the head, types, variables, instances and tasks of a template; `main` has no ports
abbrev pub template_faults : SpecTree → TemplateTree → List Place
template_faults spec t =
    place_unless (not (is_spelled (codes "main") t.name) || nat_eq (length t.ports) 0) t.name.place
    ++ flat_map (λ (p : Port). misnamed is_template (text_sort spec p.template.text) p.template) t.ports
    ++ flat_map (type_faults spec) (template_types t)
    ++ flat_map (var_faults spec) t.vars
    ++ flat_map (instance_faults spec t) t.instances
    ++ flat_map task_faults t.tasks

-- whether text may call a task of a kind with so many arguments
abbrev pub call_fits : TaskTree → ℕ → Bool
call_fits k count = not (is_controllable k.kind) && nat_eq (length k.params) count

-- a call is one of a task or procedure, not a controllable one, with as many arguments as it has parameters
abbrev pub call_faults : Context → List Ident → List ExprTree → List Place
call_faults c names es =
    wrong_sort is_called (meaning c names)
    ++ option_map_or (λ k. place_unless (call_fits k.1 (length es)) (path_place names))
    (task_reached c.spec c.template names) []

-- the place of the last name of a path
abbrev pub last_place : List Ident → Place
last_place [] = text_start
last_place (name ∷ []) = name.place
last_place (name ∷ next ∷ names) = last_place (next ∷ names)

-- a call that stands as a value is one of a procedure with a result, which fits the type that is asked for
abbrev pub called_faults : Option Ty → List Ident → TaskKind → List Place
called_faults None names (Procedure (Some ty)) = []
called_faults (Some asked) names (Procedure (Some ty)) = place_unless (same_type asked (type_of ty)) (path_place names)
called_faults asked names _ = last_place names ∷ []

-- the faults of calls in a value
abbrev pub value_call_faults : Context → Option Ty → ValueTree → List Place
value_call_faults c asked (star _) = []
value_call_faults c asked (plain _) = []
value_call_faults c asked (result names es) =
    call_faults c names es
    ++ option_map_or (λ k. called_faults asked names k.1.kind) (task_reached c.spec c.template names) []

-- the faults of the call in a statement
abbrev pub stmt_call_faults : Context → StmtTree → List Place
stmt_call_faults c (assign names _ v) = value_call_faults c (named_type c names) v
stmt_call_faults c (invoke names es) = call_faults c names es
stmt_call_faults c _ = []

-- a target is a parameter, local or variable
abbrev pub target_faults : Context → StmtTree → List Place
target_faults c s = flat_map (λ names. wrong_sort is_assigned (meaning c names)) (bare_targets s)

-- in the targets and calls of a body
abbrev pub body_faults : BodyAt → List Place
body_faults b = flat_map (λ s. target_faults b.context s ++ stmt_call_faults b.context s) (stmts_in b.body)

-- in an expression of a text, and where it does not fit the type that its place asks for
abbrev pub asked_faults : ExprAt → List Place
asked_faults e =
    value_faults e.asked.ty (expr_place e.asked.expr) (expr_faults e.context e.asked.expr)
    (own_type e.context e.asked.expr)

-- F6
abbrev pub mismatches : SpecTree → List Place
mismatches spec =
    flat_map (template_faults spec) spec.templates
    ++ flat_map body_faults (bodies spec)
    ++ flat_map asked_faults (exprs spec)
