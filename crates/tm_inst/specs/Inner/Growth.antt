-- What the list of instances grows by.
use Rattle.std.specs.Prelude.{◌≡◌, ◌++◌, ℕ, ◌+◌, Option, Some, List, [], ◌∷◌, length, slice_get, sum_by}
use Rattle.std.specs.Option.{option_and_then}
use Rattle.tm_syntax.specs.declared.design.Instance.{Instance}
use Rattle.tm_syntax.specs.declared.tree.Ident.{Ident}
use Rattle.tm_syntax.specs.declared.tree.Spec.{Spec}
use Rattle.tm_syntax.specs.Tree.{InstanceTree, SpecTree, TemplateTree}
use Rattle.tm_syntax.specs.Design.{InstanceNode, IsDeclared, IsForest, IsSubtree, neighbor}
use Rattle.tm_syntax.specs.Design.Scope.{site}
use Rattle.tm_scope.specs.Instances.{bare_design}
use Rattle.tm_inst.specs.Instances.{IsHeld, held_size}

-- the numbers of instances that stand one behind the other, each with all below it, from a number on
abbrev pub offsets : SpecTree → List ℕ → ℕ → List InstanceTree → List ℕ
offsets spec sizes at [] = []
offsets spec sizes at (i ∷ is) = at ∷ offsets spec sizes (at + held_size spec sizes i) is

-- what an argument stands for in the instance of a number
abbrev pub port_named : Spec → List Instance → ℕ → Ident → Option ℕ
port_named spec instances holder arg =
    option_and_then (λ at. neighbor at.node at.template arg.text)
    (site (bare_design (record { spec = spec; instances = instances })) holder)

-- an instance of a template, with all below it, stands behind others
pub record HasGrown (spec : SpecTree) (old new : List InstanceNode) (template size : ℕ)
    (path ports : List ℕ) : Type 0 where
  pub added : List InstanceNode
  pub node : InstanceNode
  pub behind : new ≡ old ++ added
  pub many : length added ≡ size
  pub first : slice_get new (length old) ≡ Some node
  pub template_is : node.template ≡ template
  pub path_is : node.path ≡ path
  pub ports_are : node.ports ≡ ports
  pub below : (more : List InstanceNode) → IsSubtree spec (new ++ more) (length old) (length new)

-- the instance of a number may hold an instance that a template declares: it is of a template that declares it, and
-- has as many children and ports as that has
pub record HoldsAt (spec : SpecTree) (nodes : List InstanceNode) (holder : ℕ) (i : InstanceTree) : Type 0 where
  pub node : InstanceNode
  pub template : TemplateTree
  pub is : slice_get nodes holder ≡ Some node
  pub template_is : slice_get spec.templates node.template ≡ Some template
  pub declares : IsHeld spec template i
  pub children : length node.children ≡ length template.instances
  pub ports : length node.ports ≡ length template.ports

-- an instance that a template declares stands behind others, with all below it, as it is declared
pub record HasHeld (spec : SpecTree) (old new : List InstanceNode) (parent : InstanceNode) (t : TemplateTree)
    (i : InstanceTree) (size : ℕ) : Type 0 where
  pub added : List InstanceNode
  pub child : InstanceNode
  pub behind : new ≡ old ++ added
  pub many : length added ≡ size
  pub first : slice_get new (length old) ≡ Some child
  pub declared : IsDeclared spec parent t i child
  pub below : (more : List InstanceNode) → IsSubtree spec (new ++ more) (length old) (length new)

-- an instance has been put behind others with some of those that it holds, and others are left
pub record Grows (spec : SpecTree) (sizes : List ℕ) (old now : List InstanceNode) (t : TemplateTree)
    (template size : ℕ) (path ports : List ℕ) (left : List InstanceTree) : Type 0 where
  pub node : InstanceNode
  pub more : List InstanceNode
  pub of_template : slice_get spec.templates template ≡ Some t
  pub behind : now ≡ (old ++ node ∷ []) ++ more
  pub template_is : node.template ≡ template
  pub path_is : node.path ≡ path
  pub ports_are : node.ports ≡ ports
  pub children_are : node.children ≡ offsets spec sizes (length old + 1) t.instances
  pub room : length now + sum_by (held_size spec sizes) left ≡ length old + size
  pub forest : (rest : List InstanceNode) (end : ℕ) →
      IsForest spec (now ++ rest) node t left (offsets spec sizes (length now) left) (length now) end →
      IsForest spec (now ++ rest) node t t.instances node.children (length old + 1) end
