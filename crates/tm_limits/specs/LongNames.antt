-- The names of the parts of a text, and the first of them that is too long.
use Rattle.std.specs.Prelude.{Option, None, Some, List, [], ◌∷◌, ◌++◌, length, nat_lt}
use Rattle.std.specs.List.{filter, flat_map}
use Rattle.std.specs.Option.{option_to_list}
use Rattle.tm_syntax.specs.declared.tree.Ident.{Ident}
use Rattle.tm_syntax.specs.declared.tree.Param.{Param}
use Rattle.tm_syntax.specs.Tree.{ExprTree, element, ValueTree, star, result, plain, StmtTree, assign, invoke, branch, repeat, forever, choose, assert, assume, pause, wait, magic, BodyTree, LocalTree, NamedTree, ProcessTree, TaskTree, TemplateTree}
use Rattle.tm_syntax.specs.Places.{earliest}
use Rattle.tm_syntax.specs.Scopes.Parts.{bare_targets, own_calls, stmts_in, written_result}
use Rattle.tm_syntax.specs.Faults.Limits.{type_names}
use Rattle.tm_syntax.specs.Faults.Names.{expr_paths}
use Rattle.tm_limits.specs.declared.names.bodies.Sought.{Sought}
use Rattle.tm_limits.specs.declared.names.bodies.Sought.TheVariants.{Expressions, Paths}

-- the first of some names that has more bytes than a name may have
abbrev pub first_long : List Ident → Option Ident
first_long names = earliest (λ (n : Ident). n.place) (filter (λ (n : Ident). nat_lt 63 (length n.text)) names)

-- the names of an expression's paths
abbrev pub expr_names : ExprTree → List Ident
expr_names e = flat_map (λ p. p) (expr_paths e)

-- the expressions in what is assigned
abbrev pub value_exprs : ValueTree → List ExprTree
value_exprs (star _) = []
value_exprs (result _ es) = es
value_exprs (plain e) = e ∷ []

-- the element to which a statement assigns
abbrev pub target_exprs : List Ident → Option ExprTree → List ExprTree
target_exprs names None = []
target_exprs names (Some index) = element names index ∷ []

-- the expressions that stand in a statement itself
abbrev pub own_exprs : StmtTree → List ExprTree
own_exprs (assign names index v) = target_exprs names index ++ value_exprs v
own_exprs (invoke _ es) = es
own_exprs (branch e _ _) = e ∷ []
own_exprs (repeat _ e _) = e ∷ []
own_exprs (forever _ _) = []
own_exprs (choose _ _) = []
own_exprs (assert _ e) = e ∷ []
own_exprs (assume _ e) = e ∷ []
own_exprs (pause _) = []
own_exprs (wait _ e) = e ∷ []
own_exprs (magic _) = []

-- the names of a statement itself: those in its expressions, or those of its other paths
abbrev pub own_names : Sought → StmtTree → List Ident
own_names Expressions s = flat_map expr_names (own_exprs s)
own_names Paths s = flat_map (λ p. p) (bare_targets s ++ own_calls s)

-- the names of a body's result
abbrev pub answer_names : Sought → Option ExprTree → List Ident
answer_names Expressions answer = flat_map expr_names (option_to_list answer)
answer_names Paths answer = []

-- the names of a body
abbrev pub body_names : Sought → BodyTree → List Ident
body_names sought b = flat_map (own_names sought) (stmts_in b) ++ answer_names sought b.answer

-- the names of goals and fairness conditions
abbrev pub condition_names : Sought → List NamedTree → List Ident
condition_names Expressions conditions = flat_map (λ (n : NamedTree). expr_names n.expr) conditions
condition_names Paths conditions = []

-- the names in a template's bodies, and in its goals and fairness conditions
abbrev pub template_names : Sought → TemplateTree → List Ident
template_names sought t =
    flat_map (λ (p : ProcessTree). body_names sought p.body) t.processes
    ++ flat_map (λ (k : TaskTree). body_names sought k.body) t.tasks
    ++ condition_names sought t.goals ++ condition_names sought t.fairs

-- the names among the types that a task writes
abbrev pub task_types : TaskTree → List Ident
task_types k =
    flat_map type_names (option_to_list (written_result k.kind))
    ++ flat_map (λ (p : Param). type_names p.ty) k.params
    ++ flat_map (λ (l : LocalTree). type_names l.ty) k.body.locals
