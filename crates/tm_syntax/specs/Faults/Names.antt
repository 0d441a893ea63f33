-- F4: no declaration gives a name in its scope, or there is no template `main`.
-- F5: a name is declared twice in one scope.
use Rattle.std.specs.Prelude.{Option, List, [], ◌∷◌, ◌++◌, map, is_some, codes, if◌then◌else◌}
use Rattle.std.specs.Option.{option_to_list}
use Rattle.std.specs.List.{filter, flat_map}
use Rattle.tm_syntax.specs.declared.fault.Detail.TheVariants as detail
use Rattle.tm_syntax.specs.declared.tree.Ident.{Ident}
use Rattle.tm_syntax.specs.declared.tree.Port.{Port}
use Rattle.tm_syntax.specs.declared.tree.TypeName.{TypeName}
use Rattle.tm_syntax.specs.declared.tree.TypeName.TheVariants as written
use Rattle.tm_syntax.specs.Tree.{ExprTree, truth, number, path, group, unary, binary, shift, conditional, cast, element, InstanceTree, VarTree, TemplateTree, SpecTree}
use Rattle.tm_syntax.specs.Scopes.Names.{is_spelled, template_named}
use Rattle.tm_syntax.specs.Scopes.Context.{Context}
use Rattle.tm_syntax.specs.Scopes.Declared.{Sort, Declared, members, slots, text_names, sort_in, text_sort, Meaning, unknown, misplaced, unclear, means, meaning}
use Rattle.tm_syntax.specs.Scopes.Parts.{BodyAt, bodies, stmts_in, own_calls, bare_targets, ExprAt, exprs, template_types}
use Rattle.tm_syntax.specs.Places.{text_start, is_before}
use Rattle.tm_syntax.specs.Faults.Marks.{Mark, named}

-- a name that nothing declares
abbrev pub undeclared : Option Sort → Ident → List Mark
undeclared sort name = if is_some sort then [] else (named name ∷ [])

-- a type's name is one of the text
abbrev pub unknown_type : SpecTree → TypeName → List Mark
unknown_type spec (written.Enum name) = undeclared (text_sort spec name.text) name
unknown_type spec _ = []

-- so is the name in an initial literal
abbrev pub unknown_literal : SpecTree → ExprTree → List Mark
unknown_literal spec (path (name ∷ [])) = undeclared (text_sort spec name.text) name
unknown_literal spec _ = []

-- so is the template of an instance; its arguments are members of the template in which it stands
abbrev pub unknown_in_instance : SpecTree → TemplateTree → InstanceTree → List Mark
unknown_in_instance spec t i =
    undeclared (text_sort spec i.template.text) i.template
    ++ flat_map (λ a. undeclared (sort_in (members t) a.text) a) i.args

-- what a path does not lead to
abbrev pub unknown_of : Meaning → List Mark
unknown_of (unknown name) = named name ∷ []
unknown_of (misplaced _) = []
unknown_of unclear = []
unknown_of (means _ _) = []

-- the paths in an expression, in text order
abbrev pub expr_paths : ExprTree → List (List Ident)
expr_paths (truth _ _) = []
expr_paths (number _) = []
expr_paths (path names) = names ∷ []
expr_paths (group _ e) = expr_paths e
expr_paths (unary _ _ e) = expr_paths e
expr_paths (binary _ _ a b) = expr_paths a ++ expr_paths b
expr_paths (shift _ _ e _) = expr_paths e
expr_paths (conditional _ e a b) = expr_paths e ++ expr_paths a ++ expr_paths b
expr_paths (cast _ _ e) = expr_paths e
expr_paths (element names e) = names ∷ expr_paths e

-- paths that lead to nothing
abbrev pub unknown_paths : Context → List (List Ident) → List Mark
unknown_paths c paths = flat_map (λ p. unknown_of (meaning c p)) paths

-- in the expressions of a text
abbrev pub unknown_in_expr : ExprAt → List Mark
unknown_in_expr e = unknown_paths e.context (expr_paths e.asked.expr)

-- in the targets and calls of a body
abbrev pub unknown_in_body : BodyAt → List Mark
unknown_in_body b = flat_map (λ s. unknown_paths b.context (bare_targets s ++ own_calls s)) (stmts_in b.body)

-- in the head, types, variables and instances of a template
abbrev pub unknown_in_template : SpecTree → TemplateTree → List Mark
unknown_in_template spec t =
    flat_map (λ (p : Port). undeclared (text_sort spec p.template.text) p.template) t.ports
    ++ flat_map (unknown_in_instance spec t) t.instances
    ++ flat_map (unknown_type spec) (template_types t)
    ++ flat_map (λ (v : VarTree). flat_map (unknown_literal spec) (option_to_list v.init)) t.vars

-- there is no template `main`
abbrev pub unknown_main : SpecTree → List Mark
unknown_main spec =
    if is_some (template_named spec (codes "main"))
    then []
    else (record { place = text_start; detail = detail.Named (codes "main") } ∷ [])

-- F4
abbrev pub unknown_names : SpecTree → List Mark
unknown_names spec =
    unknown_main spec
    ++ flat_map (unknown_in_template spec) spec.templates
    ++ flat_map unknown_in_expr (exprs spec)
    ++ flat_map unknown_in_body (bodies spec)

-- the later of two names
abbrev pub later_name : Ident → Ident → Ident
later_name a b = if is_before b.place a.place then a else b

-- of each two declarations of one name in a scope, the later one
abbrev pub repeats : List Declared → List Mark
repeats [] = []
repeats (d ∷ ds) =
    map (λ (e : Declared). named (later_name d.name e.name))
    (filter (λ (e : Declared). is_spelled d.name.text e.name) ds)
    ++ repeats ds

-- F5: the scopes are the text, each template, and each body together with its template
abbrev pub names_twice : SpecTree → List Mark
names_twice spec =
    repeats (text_names spec)
    ++ flat_map (λ (t : TemplateTree). repeats (members t)) spec.templates
    ++ flat_map (λ (b : BodyAt).
    repeats (slots b.context.template b.context.body ++ members b.context.template)) (bodies spec)
