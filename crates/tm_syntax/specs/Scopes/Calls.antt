-- Which tasks reach each other by calls, and which templates by instances.
use Rattle.std.specs.Prelude.{◌≡◌, ℕ, Option, Some, List, [], ◌∷◌, ◌++◌, Contains, position, slice_get}
use Rattle.std.specs.Bool.{then_some}
use Rattle.std.specs.Option.{option_map, option_and_then}
use Rattle.std.specs.List.{filter_map, flat_map}
use Rattle.tm_syntax.specs.declared.member.Member.{Member}
use Rattle.tm_syntax.specs.declared.tree.Ident.{Ident}
use Rattle.tm_syntax.specs.Tree.{BodyTree, InstanceTree, TaskTree, TemplateTree, SpecTree}
use Rattle.tm_syntax.specs.Scopes.Names.{is_spelled, template_number, template_along, last_name}
use Rattle.tm_syntax.specs.Scopes.Context.{Context, task_body}
use Rattle.tm_syntax.specs.Scopes.Parts.{BodyAt, stmts_in, own_calls}

-- the task or procedure of a number
abbrev pub numbered_task : SpecTree → Member → Option TaskTree
numbered_task spec m = option_and_then (λ t. slice_get t.tasks m.index) (slice_get spec.templates m.template)

-- the name of the template of the instance or port of this name
abbrev pub known_template : TemplateTree → List ℕ → Option Ident
known_template t name =
    slice_get (filter_map (λ i. then_some (is_spelled name i.name) i.template) t.instances
    ++ filter_map (λ p. then_some (is_spelled name p.name) p.template) t.ports) 0

-- the number of the template of the instance or port of this name, from the template of a number
abbrev pub neighbor_number : SpecTree → ℕ → List ℕ → Option ℕ
neighbor_number spec from name =
    option_and_then (λ known. template_number spec known.text)
    (option_and_then (λ t. known_template t name) (slice_get spec.templates from))

-- the number of the template in which a path from the template of a number ends
abbrev pub number_along : SpecTree → ℕ → List Ident → Option ℕ
number_along spec from [] = Some from
number_along spec from (name ∷ []) = Some from
number_along spec from (name ∷ next ∷ names) =
    option_and_then (λ n. number_along spec n (next ∷ names)) (neighbor_number spec from name.text)

-- the task or procedure that a path leads to, from the template of a number
abbrev pub task_number : SpecTree → ℕ → List Ident → Option Member
task_number spec from path =
    option_and_then (λ n. option_and_then (λ t. option_map (λ k. record { template = n; index = k })
    (position (λ task. is_spelled (last_name path) task.name) t.tasks)) (slice_get spec.templates n))
    (number_along spec from path)

-- the paths that a body calls, in text order
abbrev pub body_calls : BodyTree → List (List Ident)
body_calls body = flat_map own_calls (stmts_in body)

-- a task calls another one: a path that its body calls leads to it
pub record Calls (spec : SpecTree) (caller callee : Member) : Type 0 where
  pub task : TaskTree
  pub path : List Ident
  pub is : numbered_task spec caller ≡ Some task
  pub calls : Contains (body_calls task.body) path
  pub leads : task_number spec caller.template path ≡ Some callee

-- a task reaches another one by calls
pub data Reaches (spec : SpecTree) : Member → Member → Type 0 where
  at_once : {a b : Member} → Calls spec a b → Reaches spec a b
  through : {a b c : Member} → Calls spec a b → Reaches spec b c → Reaches spec a c

-- a template holds an instance of another one
pub record Holds (spec : SpecTree) (holder held : ℕ) : Type 0 where
  pub template : TemplateTree
  pub instance : InstanceTree
  pub is : slice_get spec.templates holder ≡ Some template
  pub holds : Contains template.instances instance
  pub leads : template_number spec instance.template.text ≡ Some held

-- a template reaches another one by instances
pub data ReachesTemplate (spec : SpecTree) : ℕ → ℕ → Type 0 where
  directly : {a b : ℕ} → Holds spec a b → ReachesTemplate spec a b
  further : {a b c : ℕ} → Holds spec a b → ReachesTemplate spec b c → ReachesTemplate spec a c

-- the body that a path calls, and where it stands
abbrev pub callee : Context → List Ident → Option BodyAt
callee c path =
    option_and_then (λ u. option_and_then (λ k. option_map (λ task.
    record { context = record { spec = c.spec; template = u; body = task_body k }; body = task.body })
    (slice_get u.tasks k)) (position (λ task. is_spelled (last_name path) task.name) u.tasks))
    (template_along c.spec c.template path)
