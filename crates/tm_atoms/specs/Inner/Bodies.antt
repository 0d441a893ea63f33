-- Where the bodies, goals and fairness conditions of a design stand.
use Rattle.std.specs.Prelude.{◌≡◌, ℕ, Option, Some, List, [], map, slice_get}
use Rattle.std.specs.Option.{option_and_then, option_map}
use Rattle.tm_syntax.specs.declared.design.Item.{Item}
use Rattle.tm_syntax.specs.declared.tree.Ident.{Ident}
use Rattle.tm_syntax.specs.Tree.{BodyTree, ExprTree, NamedTree, TemplateTree}
use Rattle.tm_syntax.specs.Tree.View.{spec_tree}
use Rattle.tm_syntax.specs.Scopes.Context.{process_body, task_body}
use Rattle.tm_syntax.specs.Design.{DesignTree, InstanceNode, instance_node}
use Rattle.tm_syntax.specs.Design.Cells.{Called, called}
use Rattle.tm_syntax.specs.Design.Scope.{Scope}
use Rattle.tm_scope.specs.Cells.{CellTables}
use Rattle.tm_scope.specs.Instances.{task_called_at}
use Rattle.tm_scope.specs.declared.members.SiteTask.{SiteTask}
use Rattle.tm_atoms.specs.declared.bodies.Claim.{Claim}
use Rattle.tm_atoms.specs.declared.bodies.Claim.TheVariants.{Fairness, Goal}

-- what is seen of a body that is called: its scope, and the body
abbrev pub seen : Scope → BodyTree → Scope × BodyTree
seen scope body = (scope, body)

-- the scope of the body of a task
abbrev pub body_of_task : SiteTask → Scope
body_of_task task = record { instance = task.instance; body = task_body task.index }

-- a path calls a task from a scope, with this body
pub record IsCallee (d : DesignTree) (from : Scope) (path : List Ident) (task : SiteTask)
    (def : BodyTree) : Type 0 where
  pub callee : Called
  pub is : called d from path ≡ Some callee
  pub there : task_called_at d task ≡ Some callee
  pub scope : callee.scope ≡ body_of_task task
  pub body : callee.body ≡ def

-- the template of an instance
abbrev pub instance_template : DesignTree → ℕ → Option TemplateTree
instance_template d n =
    option_and_then (λ (node : InstanceNode). slice_get d.spec.templates node.template) (slice_get d.instances n)

-- what an item is among the members of a sort of the template of its instance, by its index there
abbrev pub item_seen : {X Y : Type 0} → DesignTree → (TemplateTree → List X) → (ℕ → X → Y) → Item → Option Y
item_seen d sort found item =
    option_and_then (λ t. option_and_then (λ k. option_map (found k) (slice_get (sort t) k)) item.index)
    (instance_template d item.instance)

-- the body of a process
abbrev pub process_seen : DesignTree → Item → Option (Scope × BodyTree)
process_seen d item =
    item_seen d (λ t. t.processes)
    (λ k p. seen (record { instance = item.instance; body = process_body k }) p.body) item

-- the body of a task
abbrev pub task_seen : DesignTree → Item → Option (Scope × BodyTree)
task_seen d item =
    item_seen d (λ t. t.tasks) (λ k task. seen (record { instance = item.instance; body = task_body k }) task.body) item

-- the goals of a template, or its fairness conditions
abbrev pub claims_of : Claim → TemplateTree → List NamedTree
claims_of Goal t = t.goals
claims_of Fairness t = t.fairs

-- the expression of a goal or a fairness condition
abbrev pub named_seen : DesignTree → (TemplateTree → List NamedTree) → Item → Option ExprTree
named_seen d sort item = item_seen d sort (λ k n. n.expr) item

-- a design of these cells that holds nothing else
abbrev pub cell_design : CellTables → DesignTree
cell_design x = record {
  spec = spec_tree x.spec;
  instances = map instance_node x.instances;
  vars = x.vars;
  processes = [];
  tasks = [];
  goals = [];
  fairs = [];
}
