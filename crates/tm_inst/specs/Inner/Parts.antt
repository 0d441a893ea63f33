-- What a design lists beside its tree.
use Rattle.std.specs.Prelude.{ℕ, ◌≤◌, length, map}
use Rattle.tm_syntax.specs.declared.fault.Quantity.TheVariants as quantity
use Rattle.tm_syntax.specs.Tree.{SpecTree}
use Rattle.tm_syntax.specs.Scopes.Calls.{ReachesTemplate}
use Rattle.tm_syntax.specs.Design.{DesignTree, IsDesign, instance_node}
use Rattle.tm_syntax.specs.Design.Atoms.{pool_atoms}
use Rattle.tm_syntax.specs.Faults.Limits.{limit_of}
use Rattle.tm_inst.specs.Answer.{IsWithinCounts}
use Rattle.tm_inst.specs.declared.parts.Parts.{Parts}

-- a tree with what its design lists
abbrev pub parts_tree : SpecTree → Parts → DesignTree
parts_tree spec x = record {
  spec = spec;
  instances = map instance_node x.instances.items;
  vars = x.vars.items;
  processes = x.items.processes.items;
  tasks = x.items.tasks.items;
  goals = x.items.goals.items;
  fairs = x.items.fairs.items;
}

-- these are the parts of the design of a tree that is within its limits, apart from that on atoms, and in which no
-- template holds itself
pub record HasParts (spec : SpecTree) (x : Parts) : Type 0 where
  pub numbered : IsDesign (parts_tree spec x)
  pub acyclic : (t : ℕ) → ¬ ReachesTemplate spec t t
  pub within : IsWithinCounts spec

-- the design of these parts is within the limit on atoms, too
pub record HasSoundParts (spec : SpecTree) (x : Parts) : Type 0 where
  pub parts : HasParts spec x
  pub few : length (pool_atoms (parts_tree spec x)) ≤ limit_of quantity.Atoms
