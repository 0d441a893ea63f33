-- What the loops list, part by part.
use Rattle.std.specs.Prelude.{◌++◌, ℕ, Bool, Option, Some, List, true, map}
use Rattle.std.specs.Bool.{then_some}
use Rattle.std.specs.List.{enumerate_from, filter_map, flat_map}
use Rattle.tm_syntax.specs.declared.design.Item.{Item}
use Rattle.tm_syntax.specs.declared.design.Var.{Var}
use Rattle.tm_syntax.specs.declared.tree.Ident.{Ident}
use Rattle.tm_syntax.specs.declared.tree.Param.{Param}
use Rattle.tm_syntax.specs.declared.tree.TypeName.{TypeName}
use Rattle.tm_syntax.specs.Tree.{LocalTree, NamedTree, ProcessTree, SpecTree, TaskTree, TemplateTree}
use Rattle.tm_syntax.specs.Scopes.Names.{type_of}
use Rattle.tm_syntax.specs.Scopes.Pauses.{is_controllable}
use Rattle.tm_syntax.specs.Design.{InstanceNode, declared_vars, instance_items, kept_var, member_path, process_vars, task_vars}
use Rattle.tm_inst.specs.declared.items.Items.{Items}

-- the item of a name and an index in an instance of a number and a path
abbrev pub item_of : ℕ → List ℕ → ℕ → Ident → Item
item_of instance base index name = record {
  path = member_path base name.text;
  instance = instance;
  index = Some index;
}

-- the items of those members of a list that count, numbered from a number on
abbrev pub items_from : {X : Type 0} → (X → Bool) → (X → Ident) → ℕ → List ℕ → ℕ → List X → List Item
items_from counts name instance base k xs =
    filter_map (λ x. then_some (counts x.1) (item_of instance base x.0 (name x.1))) (enumerate_from k xs)

-- a variable of a path, as a declaration in an instance of a number gives it
abbrev pub var_of : ℕ → List ℕ → TypeName → Option ℕ → Var
var_of instance path ty init = record { path = path; ty = type_of ty; init = init; instance = instance }

-- the variables in which the parameters and locals of a task are kept
abbrev pub slot_vars : ℕ → List ℕ → TaskTree → List Var
slot_vars i base k =
    map (λ (p : Param). kept_var i (member_path base k.name.text) p.ty p.name) k.params
    ++ map (λ (l : LocalTree). kept_var i (member_path base k.name.text) l.ty l.name) k.body.locals

-- the variables of a template in an instance of a number and a path
abbrev pub template_vars : SpecTree → ℕ → List ℕ → TemplateTree → List Var
template_vars spec i base t =
    flat_map (declared_vars spec i base) t.vars
    ++ flat_map (process_vars i base) t.processes
    ++ flat_map (task_vars spec t i base) t.tasks

-- the items of all sorts
pub record ItemLists : Type 0 where
  pub processes : List Item
  pub tasks : List Item
  pub goals : List Item
  pub fairs : List Item

-- the lists of the code, as plain data
abbrev pub lists_of : Items → ItemLists
lists_of x = record {
  processes = x.processes.items;
  tasks = x.tasks.items;
  goals = x.goals.items;
  fairs = x.fairs.items;
}

-- lists of all sorts, others behind them
abbrev pub joined : ItemLists → ItemLists → ItemLists
joined a b = record {
  processes = a.processes ++ b.processes;
  tasks = a.tasks ++ b.tasks;
  goals = a.goals ++ b.goals;
  fairs = a.fairs ++ b.fairs;
}

-- the items of a template in an instance of a number and a path
abbrev pub template_lists : ℕ → List ℕ → TemplateTree → ItemLists
template_lists i base t = record {
  processes = items_from (λ _. true) (λ (p : ProcessTree). p.name) i base 0 t.processes;
  tasks = items_from (λ (k : TaskTree). is_controllable k.kind) (λ (k : TaskTree). k.name) i base 0 t.tasks;
  goals = items_from (λ _. true) (λ (g : NamedTree). g.name) i base 0 t.goals;
  fairs = items_from (λ _. true) (λ (f : NamedTree). f.name) i base 0 t.fairs;
}

-- the items of an instance
abbrev pub instance_lists : SpecTree → ℕ × InstanceNode → ItemLists
instance_lists spec i = record {
  processes = instance_items (λ t. t.processes) (λ _. true) (λ (p : ProcessTree). p.name) spec i;
  tasks = instance_items (λ t. t.tasks) (λ (k : TaskTree). is_controllable k.kind) (λ (k : TaskTree). k.name) spec i;
  goals = instance_items (λ t. t.goals) (λ _. true) (λ (g : NamedTree). g.name) spec i;
  fairs = instance_items (λ t. t.fairs) (λ _. true) (λ (f : NamedTree). f.name) spec i;
}

-- the items of instances, numbered from a number on
abbrev pub lists_from : SpecTree → ℕ → List InstanceNode → ItemLists
lists_from spec k nodes = record {
  processes = flat_map (λ i. (instance_lists spec i).processes) (enumerate_from k nodes);
  tasks = flat_map (λ i. (instance_lists spec i).tasks) (enumerate_from k nodes);
  goals = flat_map (λ i. (instance_lists spec i).goals) (enumerate_from k nodes);
  fairs = flat_map (λ i. (instance_lists spec i).fairs) (enumerate_from k nodes);
}
