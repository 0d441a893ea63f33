-- What a design is as plain data.
use Rattle.std.specs.Prelude.{map}
use Rattle.tm_syntax.specs.declared.design.Design.{Design}
use Rattle.tm_syntax.specs.Design.{DesignTree, instance_node}
use Rattle.tm_syntax.specs.Tree.View.{spec_tree}

-- a design
abbrev pub design_tree : Design → DesignTree
design_tree d = record {
  spec = spec_tree d.spec;
  instances = map instance_node d.instances.items;
  vars = d.vars.items;
  processes = d.processes.items;
  tasks = d.tasks.items;
  goals = d.goals.items;
  fairs = d.fairs.items;
}
