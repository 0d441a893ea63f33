-- What the names of a text are declared as, scope by scope, and what a path leads to.
use Rattle.std.specs.Prelude.{ℕ, Option, None, Some, List, [], ◌∷◌, ◌++◌, map, is_some, slice_get, if◌then◌else◌}
use Rattle.std.specs.Option.{option_map, option_map_or, option_or}
use Rattle.std.specs.List.{filter, flat_map}
use Rattle.tm_syntax.specs.declared.tree.Ident.{Ident}
use Rattle.tm_syntax.specs.declared.tree.Param.{Param}
use Rattle.tm_syntax.specs.declared.tree.Port.{Port}
use Rattle.tm_syntax.specs.Tree.{BodyTree, LocalTree, VarTree, NamedTree, ProcessTree, TaskTree, InstanceTree, EnumTree, TemplateTree, SpecTree}
use Rattle.tm_syntax.specs.Scopes.Names.{is_spelled}
use Rattle.tm_syntax.specs.Scopes.Context.{Context, BodyName, process_body, task_body, outside}
use Rattle.tm_syntax.specs.Places.{earliest}

-- what a name is declared as
pub data Sort : Type 0 where
  -- a parameter or local of a body
  a_slot : Sort
  -- an instance or port, of the template of this name
  a_neighbor : Ident → Sort
  a_variable : Sort
  an_array : Sort
  -- a task or procedure
  a_task : Sort
  -- a goal, a fairness condition or a process
  a_part : Sort
  a_constant : Sort
  an_enum : Sort
  a_template : TemplateTree → Sort

-- a name where it is declared
pub record Declared : Type 0 where
  pub name : Ident
  pub sort : Sort

-- a name, declared as this
abbrev pub declared : Sort → Ident → Declared
declared sort name = record { name = name; sort = sort }

-- a variable, or an array where it has a length
abbrev pub var_sort : VarTree → Sort
var_sort v = if is_some v.size then an_array else a_variable

-- the members of a template
abbrev pub members : TemplateTree → List Declared
members t =
    map (λ (p : Port). declared (a_neighbor p.template) p.name) t.ports
    ++ map (λ (i : InstanceTree). declared (a_neighbor i.template) i.name) t.instances
    ++ map (λ (v : VarTree). declared (var_sort v) v.name) t.vars
    ++ map (λ (g : NamedTree). declared a_part g.name) t.goals
    ++ map (λ (f : NamedTree). declared a_part f.name) t.fairs
    ++ map (λ (p : ProcessTree). declared a_part p.name) t.processes
    ++ map (λ (k : TaskTree). declared a_task k.name) t.tasks

-- the locals of a body
abbrev pub locals : BodyTree → List Declared
locals body = map (λ (l : LocalTree). declared a_slot l.name) body.locals

-- the parameters and locals of a task
abbrev pub task_slots : TaskTree → List Declared
task_slots k = map (λ (p : Param). declared a_slot p.name) k.params ++ locals k.body

-- the parameters and locals of a body of a template
abbrev pub slots : TemplateTree → BodyName → List Declared
slots t (process_body k) = option_map_or (λ (p : ProcessTree). locals p.body) (slice_get t.processes k) []
slots t (task_body k) = option_map_or task_slots (slice_get t.tasks k) []
slots t outside = []

-- the enums, enum constants and templates of a text
abbrev pub text_names : SpecTree → List Declared
text_names spec =
    flat_map (λ (e : EnumTree). declared an_enum e.name ∷ map (declared a_constant) e.constants) spec.enums
    ++ map (λ (t : TemplateTree). declared (a_template t) t.name) spec.templates

-- what a name is declared as in a scope: of two declarations the first one counts
abbrev pub sort_in : List Declared → List ℕ → Option Sort
sort_in scope name =
    option_map (λ d. d.sort) (earliest (λ d. d.name.place) (filter (λ d. is_spelled name d.name) scope))

-- what a name of the text is declared as
abbrev pub text_sort : SpecTree → List ℕ → Option Sort
text_sort spec name = sort_in (text_names spec) name

-- what a name is declared as where it stands alone in a body: there, in the template, or else in the text
abbrev pub sort_here : Context → List ℕ → Option Sort
sort_here c name = option_or (sort_in (slots c.template c.body ++ members c.template) name) (text_sort c.spec name)

-- the template that something declared is
abbrev pub template_in : Option Sort → Option TemplateTree
template_in (Some (a_template t)) = Some t
template_in _ = None

-- what a path leads to
pub data Meaning : Type 0 where
  -- no declaration gives this name in its scope
  unknown : Ident → Meaning
  -- this name leads no further, and is not the last
  misplaced : Ident → Meaning
  -- the path leads through an instance or port whose template is none
  unclear : Meaning
  -- the last name is declared as this
  means : Ident → Sort → Meaning

-- what the last name of a path is declared as
abbrev pub last_meaning : Ident → Option Sort → Meaning
last_meaning name None = unknown name
last_meaning name (Some sort) = means name sort

-- an instance or port leads on into its template, and nothing else does
abbrev pub leading_on : SpecTree → (TemplateTree → Meaning) → Ident → Option Sort → Meaning
leading_on spec onward name None = unknown name
leading_on spec onward name (Some (a_neighbor t)) = option_map_or onward (template_in (text_sort spec t.text)) unclear
leading_on spec onward name (Some _) = misplaced name

-- what a path leads to, where its first name is looked up so and each further one among the members of a template
abbrev pub path_meaning : SpecTree → (List ℕ → Option Sort) → List Ident → Meaning
path_meaning spec look [] = unclear
path_meaning spec look (name ∷ []) = last_meaning name (look name.text)
path_meaning spec look (name ∷ next ∷ names) =
    leading_on spec (λ t. path_meaning spec (sort_in (members t)) (next ∷ names)) name (look name.text)

-- what a path means where it stands
abbrev pub meaning : Context → List Ident → Meaning
meaning c path = path_meaning c.spec (sort_here c) path
