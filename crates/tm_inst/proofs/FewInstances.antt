-- A text within its limits has few instances.
use Rattle.std.proofs.Common.{◌≡◌, ℕ, ◌≤◌, Bool, true, false, Option, None, Some, List, length, refl, sym, arith, cond, nat_lt}
use Rattle.std.specs.List.{flat_map, enumerate_from}
use Rattle.std.proofs.lemmas.Bool.Decides.{nat_tests}
use Rattle.tm_syntax.specs.declared.fault.Quantity.{Quantity}
use Rattle.tm_syntax.specs.Tree.{NamedTree, ProcessTree, TaskTree, SpecTree}
use Rattle.tm_syntax.specs.Scopes.Calls.{ReachesTemplate}
use Rattle.tm_syntax.specs.Scopes.Pauses.{is_controllable}
use Rattle.tm_syntax.specs.Counts.Instances.{count_instances}
use Rattle.tm_syntax.specs.Design.{DesignTree, InstanceNode, AreInstances, IsDesign, all_items, instance_vars, with_goal}
use Rattle.tm_syntax.specs.Faults.Limits.{first_above}
use Rattle.tm_syntax.proofs.Instances.{instances_counted}
use Rattle.tm_typing.proofs.Listed.{no_thing}

-- where nothing is found, the first does not pass, and nothing is found behind it
not_first : (b : Bool) (q : Quantity) (o : Option Quantity) → cond b (Some q) o ≡ None → (b ≡ false) × (o ≡ None)
not_first true q o e = no_thing (sym e)
not_first false q o e = (refl, e)

-- a text within its limits has at most 64 instances
pub instances_few : (spec : SpecTree) → first_above spec ≡ None → count_instances spec ≤ 64
instances_few spec within =
    let first = not_first _ _ _ within in
    let second = not_first _ _ _ first.1 in
    at_most (count_instances spec) second.0
  where
    at_most : (n : ℕ) → nat_lt 64 n ≡ false → n ≤ 64
    at_most n e = grind (arith, nat_tests)

-- the design of some instances of a text
abbrev design_of : SpecTree → List InstanceNode → DesignTree
design_of spec nodes = record {
  spec = spec;
  instances = nodes;
  vars = flat_map (instance_vars spec) (enumerate_from 0 nodes);
  processes = all_items (λ t. t.processes) (λ _. true) (λ (p : ProcessTree). p.name) spec nodes;
  tasks = all_items (λ t. t.tasks) (λ (k : TaskTree). is_controllable k.kind) (λ (k : TaskTree). k.name) spec nodes;
  goals = with_goal (all_items (λ t. t.goals) (λ _. true) (λ (g : NamedTree). g.name) spec nodes);
  fairs = all_items (λ t. t.fairs) (λ _. true) (λ (f : NamedTree). f.name) spec nodes;
}

design_is : (spec : SpecTree) (nodes : List InstanceNode) → AreInstances spec nodes → IsDesign (design_of spec nodes)
design_is spec nodes are = record {
  instances = are;
  vars = refl;
  processes = refl;
  tasks = refl;
  goals = refl;
  fairs = refl;
}

-- so has its design
pub nodes_few : (spec : SpecTree) (nodes : List InstanceNode) → ((t : ℕ) → ¬ ReachesTemplate spec t t) →
    first_above spec ≡ None → AreInstances spec nodes → length nodes ≤ 64
nodes_few spec nodes acyclic within are =
    let same = instances_counted (design_of spec nodes) acyclic (design_is spec nodes are) in
    let few = instances_few spec within in
    omega arith
