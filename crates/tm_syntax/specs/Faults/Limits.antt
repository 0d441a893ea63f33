-- F12: a quantity is above its limit.
use Rattle.std.specs.Prelude.{◌≡◌, ℕ, ◌<◌, ◌≤◌, min, Option, None, Some, List, [], ◌∷◌, ◌++◌, map, length, nat_lt}
use Rattle.std.specs.Option.{option_to_list}
use Rattle.std.specs.List.{filter, find, flat_map}
use Rattle.tm_base.specs.declared.place.Place.{Place}
use Rattle.tm_syntax.specs.declared.fault.Quantity.{Quantity}
use Rattle.tm_syntax.specs.declared.fault.Quantity.TheVariants as quantity
use Rattle.tm_syntax.specs.declared.fault.Detail.TheVariants as detail
use Rattle.tm_syntax.specs.declared.tree.Ident.{Ident}
use Rattle.tm_syntax.specs.declared.tree.Param.{Param}
use Rattle.tm_syntax.specs.declared.tree.Port.{Port}
use Rattle.tm_syntax.specs.declared.tree.TypeName.{TypeName}
use Rattle.tm_syntax.specs.declared.tree.TypeName.TheVariants as written
use Rattle.tm_syntax.specs.Tree.{LocalTree, VarTree, NamedTree, ProcessTree, TaskTree, InstanceTree, EnumTree, TemplateTree, SpecTree}
use Rattle.tm_syntax.specs.Limits.{specification_limit}
use Rattle.tm_syntax.specs.Scopes.Parts.{BodyAt, bodies, stmts_in, own_calls, bare_targets, exprs, template_types}
use Rattle.tm_syntax.specs.Design.{DesignTree, IsDesign}
use Rattle.tm_syntax.specs.Design.Atoms.{pool_atoms}
use Rattle.tm_syntax.specs.Counts.Instances.{count_instances, count_processes, count_goals, count_fairness, count_tasks}
use Rattle.tm_syntax.specs.Counts.Bodies.{count_statements, count_locations, count_state, count_arguments}
use Rattle.tm_syntax.specs.Counts.Choices.{count_choices}
use Rattle.tm_syntax.specs.Places.{text_start, earliest}
use Rattle.tm_syntax.specs.Faults.Marks.{Mark}
use Rattle.tm_syntax.specs.Faults.Names.{expr_paths}

-- the limits
abbrev pub limit_of : Quantity → ℕ
limit_of quantity.Specification = specification_limit
limit_of quantity.Name = 63
limit_of quantity.Statements = 65536
limit_of quantity.Instances = 64
limit_of quantity.Processes = 30
limit_of quantity.Goals = 16
limit_of quantity.Fairness = 32
limit_of quantity.Tasks = 64
limit_of quantity.State = 256
limit_of quantity.Choices = 64
limit_of quantity.Arguments = 64
limit_of quantity.Locations = 1024
limit_of quantity.Atoms = 512

-- a quantity above its limit; what was found is told up to a bound
abbrev pub above : Place → Quantity → ℕ → Mark
above at what found =
    record { place = at; detail = detail.Limit what (limit_of what) (min found 4294967295) }

-- the name that a type is
abbrev pub type_names : TypeName → List Ident
type_names (written.Enum name) = name ∷ []
type_names _ = []

-- the names that a template declares
abbrev pub declared_names : TemplateTree → List Ident
declared_names t =
    t.name ∷ map (λ (p : Port). p.name) t.ports
    ++ map (λ (i : InstanceTree). i.name) t.instances
    ++ map (λ (v : VarTree). v.name) t.vars
    ++ map (λ (n : NamedTree). n.name) (t.goals ++ t.fairs)
    ++ flat_map (λ (p : ProcessTree). p.name ∷ map (λ (l : LocalTree). l.name) p.body.locals) t.processes
    ++ flat_map (λ (k : TaskTree). k.name ∷ map (λ (p : Param). p.name) k.params
    ++ map (λ (l : LocalTree). l.name) k.body.locals) t.tasks

-- the names that a template's head, types, instances and initial literals use
abbrev pub used_names : TemplateTree → List Ident
used_names t =
    map (λ (p : Port). p.template) t.ports
    ++ flat_map (λ (i : InstanceTree). i.template ∷ i.args) t.instances
    ++ flat_map type_names (template_types t)
    ++ flat_map (λ (v : VarTree). flat_map (λ e. flat_map (λ p. p) (expr_paths e)) (option_to_list v.init)) t.vars

-- the names of the paths of a body that are no expressions
abbrev pub body_names : BodyAt → List Ident
body_names b = flat_map (λ s. flat_map (λ p. p) (bare_targets s ++ own_calls s)) (stmts_in b.body)

-- all names of a text
abbrev pub all_names : SpecTree → List Ident
all_names spec =
    flat_map (λ (e : EnumTree). e.name ∷ e.constants) spec.enums
    ++ flat_map declared_names spec.templates
    ++ flat_map used_names spec.templates
    ++ flat_map (λ e. flat_map (λ p. p) (expr_paths e.asked.expr)) (exprs spec)
    ++ flat_map body_names (bodies spec)

-- the names that are too long
abbrev pub long_names : SpecTree → List Ident
long_names spec = filter (λ (n : Ident). nat_lt (limit_of quantity.Name) (length n.text)) (all_names spec)

-- the quantities that are counted over the text, in the order of their limits
abbrev pub counted : List Quantity
counted =
    quantity.Statements ∷ quantity.Instances ∷ quantity.Processes ∷ quantity.Goals ∷ quantity.Fairness
    ∷ quantity.Tasks ∷ quantity.State ∷ quantity.Choices ∷ quantity.Arguments ∷ quantity.Locations ∷ []

-- the counts over the text
abbrev pub count_of : SpecTree → Quantity → ℕ
count_of spec quantity.Statements = count_statements spec
count_of spec quantity.Instances = count_instances spec
count_of spec quantity.Processes = count_processes spec
count_of spec quantity.Goals = count_goals spec
count_of spec quantity.Fairness = count_fairness spec
count_of spec quantity.Tasks = count_tasks spec
count_of spec quantity.State = count_state spec
count_of spec quantity.Choices = count_choices spec
count_of spec quantity.Arguments = count_arguments spec
count_of spec quantity.Locations = count_locations spec
count_of spec _ = 0

-- the first of the counted quantities that is above its limit
abbrev pub first_above : SpecTree → Option Quantity
first_above spec = find (λ q. nat_lt (limit_of q) (count_of spec q)) counted

-- F12: the first quantity that is above its limit, in the order of the limits
pub data IsAboveLimit (spec : SpecTree) : Mark → Type 0 where
  long_name : (name : Ident) → earliest (λ (n : Ident). n.place) (long_names spec) ≡ Some name →
      IsAboveLimit spec (above name.place quantity.Name (length name.text))
  many : (what : Quantity) → long_names spec ≡ [] → first_above spec ≡ Some what →
      IsAboveLimit spec (above text_start what (count_of spec what))
  many_atoms : (d : DesignTree) → long_names spec ≡ [] → first_above spec ≡ None → d.spec ≡ spec → IsDesign d →
      limit_of quantity.Atoms < length (pool_atoms d) →
      IsAboveLimit spec (above text_start quantity.Atoms (length (pool_atoms d)))

-- a design is within all limits
pub record IsWithinLimits (d : DesignTree) : Type 0 where
  pub names : long_names d.spec ≡ []
  pub counts : first_above d.spec ≡ None
  pub atoms : length (pool_atoms d) ≤ limit_of quantity.Atoms
