-- What the tables of names say.
use Rattle.std.specs.Prelude.{◌≡◌, ℕ, List, [], map, nat_eq, position}
use Rattle.std.specs.Cmp.Lexicographic.{pointwise}
use Rattle.std.specs.List.{list_any}
use Rattle.tm_syntax.specs.declared.design.Var.{Var}
use Rattle.tm_syntax.specs.declared.tree.Ident.{Ident}
use Rattle.tm_syntax.specs.declared.tree.Param.{Param}
use Rattle.tm_syntax.specs.declared.tree.LocalDef.{LocalDef}
use Rattle.tm_syntax.specs.declared.tree.ProcessDef.{ProcessDef}
use Rattle.tm_syntax.specs.declared.tree.TaskDef.{TaskDef}
use Rattle.tm_syntax.specs.declared.tree.EnumDef.{EnumDef}
use Rattle.tm_syntax.specs.declared.tree.Template.{Template}
use Rattle.tm_syntax.specs.declared.tree.Spec.{Spec}
use Rattle.tm_syntax.specs.Scopes.Names.{is_spelled}
use Rattle.tm_scope.specs.Directory.{index_of}

-- the entries of a directory give the first index at which each name stands
abbrev pub IsDirectory : {X : Type 0} → (X → Ident) → List X → List (List ℕ × ℕ) → Type 0
IsDirectory name_of xs entries = (name : List ℕ) →
    index_of entries name ≡ position (λ x. is_spelled name (name_of x)) xs

-- the parameters and locals of a body
pub record BodySlots : Type 0 where
  pub params : List Param
  pub locals : List LocalDef

-- the slots of a process's body: its locals
abbrev pub process_slots : ProcessDef → BodySlots
process_slots p = record { params = []; locals = p.body.locals.items }

-- the slots of the body of a task
abbrev pub task_slots : TaskDef → BodySlots
task_slots k = record { params = k.params.items; locals = k.body.locals.items }

-- the tables of the instances and ports of a template
pub record AreNeighbors (t : Template) (instances ports : List (List ℕ × ℕ)) : Type 0 where
  pub instance : IsDirectory (λ i. i.name) t.instances.items instances
  pub port : IsDirectory (λ p. p.name) t.ports.items ports

-- the tables of the variables and tasks of a template
pub record AreMembers (t : Template) (vars tasks : List (List ℕ × ℕ)) : Type 0 where
  pub var : IsDirectory (λ v. v.name) t.vars.items vars
  pub task : IsDirectory (λ k. k.name) t.tasks.items tasks

-- the tables of the bodies of a template
pub record AreBodies (t : Template) (processes tasks : List BodySlots) : Type 0 where
  pub of_process : processes ≡ map process_slots t.processes.items
  pub of_task : tasks ≡ map task_slots t.tasks.items

-- the tables of the constants of a specification
pub record AreConstants (spec : Spec) (enums : List (List ℕ × ℕ)) (values : List EnumDef) : Type 0 where
  pub enum_of : (name : List ℕ) →
      index_of enums name ≡ position (λ e. list_any (is_spelled name) e.constants.items) spec.enums.items
  pub each_enum : values ≡ spec.enums.items

-- the table of the paths of state variables
abbrev pub AreNumbered : List Var → List (List ℕ × ℕ) → Type 0
AreNumbered vars numbers = (path : List ℕ) → index_of numbers path ≡ position (λ v. pointwise nat_eq path v.path) vars

-- the tables of the names of a specification
pub record AreNames (spec : Spec) (templates enums : List (List ℕ × ℕ)) : Type 0 where
  pub template : IsDirectory (λ t. t.name) spec.templates.items templates
  pub enum_of : IsDirectory (λ e. e.name) spec.enums.items enums
