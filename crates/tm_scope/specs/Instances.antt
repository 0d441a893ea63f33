-- The instances along which paths lead.
use Rattle.std.specs.Prelude.{◌≡◌, Option, List, [], map}
use Rattle.std.specs.Option.{option_and_then}
use Rattle.tm_syntax.specs.declared.design.Instance.{Instance}
use Rattle.tm_syntax.specs.declared.tree.Spec.{Spec}
use Rattle.tm_syntax.specs.Tree.View.{spec_tree}
use Rattle.tm_syntax.specs.Design.{DesignTree, instance_node}
use Rattle.tm_syntax.specs.Design.Cells.{Called, task_called}
use Rattle.tm_syntax.specs.Design.Scope.{site}
use Rattle.tm_scope.specs.declared.members.SiteTask.{SiteTask}

-- a specification and instances of its templates
pub record InstanceTables : Type 0 where
  pub spec : Spec
  pub instances : List Instance

-- a design of these instances that holds nothing else
abbrev pub bare_design : InstanceTables → DesignTree
bare_design x = record {
  spec = spec_tree x.spec;
  instances = map instance_node x.instances;
  vars = [];
  processes = [];
  tasks = [];
  goals = [];
  fairs = [];
}

-- a design has this text and these instances
pub record IsOver (x : InstanceTables) (d : DesignTree) : Type 0 where
  pub text : d.spec ≡ spec_tree x.spec
  pub instances : d.instances ≡ map instance_node x.instances

-- the task of a number in a design, as a call runs it
abbrev pub task_called_at : DesignTree → SiteTask → Option Called
task_called_at d task = option_and_then (λ at. task_called d at task.index) (site d task.instance)
