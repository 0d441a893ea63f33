-- The design of a specification (Ryzhyk et al. 2009): its instances in preorder from `main`, and what they hold,
-- numbered instance by instance and in text order within a template.
pub mod Atoms
pub mod Cells
pub mod Locations
pub mod Scope
pub mod Sizes
pub mod View
pub mod Work
use Rattle.std.specs.Prelude.{◌≡◌, ℕ, ◌+◌, Bool, true, false, Option, None, Some, List, [], ◌∷◌, ◌++◌, map, length, position, codes, unwrap_or, slice_get, if◌then◌else◌}
use Rattle.std.specs.Bool.{then_some}
use Rattle.std.specs.Option.{option_map, option_to_list}
use Rattle.std.specs.List.{filter_map, flat_map, enumerate_from, range_with_len}
use Rattle.std.specs.Fmt.{decimal}
use Rattle.tm_syntax.specs.declared.design.Instance.{Instance}
use Rattle.tm_syntax.specs.declared.design.Var.{Var}
use Rattle.tm_syntax.specs.declared.design.Item.{Item}
use Rattle.tm_syntax.specs.declared.tree.Ident.{Ident}
use Rattle.tm_syntax.specs.declared.tree.Num.{Num}
use Rattle.tm_syntax.specs.declared.tree.TypeName.{TypeName}
use Rattle.tm_syntax.specs.Tree.{ExprTree, truth, number, path, VarTree, NamedTree, ProcessTree, TaskTree, InstanceTree, TemplateTree, SpecTree}
use Rattle.tm_syntax.specs.Scopes.Names.{is_spelled, number_of, type_of, constant_value, template_number}
use Rattle.tm_syntax.specs.Scopes.Pauses.{is_controllable, is_kept}

-- an instance, with lists in the place of vectors
pub record InstanceNode : Type 0 where
  pub path : List ℕ
  pub template : ℕ
  pub ports : List ℕ
  pub children : List ℕ

-- what contracts see of an instance
abbrev pub instance_node : Instance → InstanceNode
instance_node i = record { path = i.path; template = i.template; ports = i.ports.items; children = i.children.items }

-- a design, with lists in the place of vectors
pub record DesignTree : Type 0 where
  pub spec : SpecTree
  pub instances : List InstanceNode
  pub vars : List Var
  pub processes : List Item
  pub tasks : List Item
  pub goals : List Item
  pub fairs : List Item

-- the path of what an instance holds: its own path and the name, with a dot between; the path of `main` is empty
abbrev pub member_path : List ℕ → List ℕ → List ℕ
member_path [] name = name
member_path (b ∷ bs) name = (b ∷ bs) ++ 46 ∷ name

-- the instance that a name of an instance's template stands for: one that it holds, or a port
abbrev pub neighbor : InstanceNode → TemplateTree → List ℕ → Option ℕ
neighbor node t name =
    slice_get (filter_map (λ k. slice_get node.children k)
    (option_to_list (position (λ i. is_spelled name i.name) t.instances))
    ++ filter_map (λ k. slice_get node.ports k)
    (option_to_list (position (λ p. is_spelled name p.name) t.ports))) 0

-- an instance as its template's text declares it, within another one
pub record IsDeclared (spec : SpecTree) (parent : InstanceNode) (t : TemplateTree) (declared : InstanceTree)
    (child : InstanceNode) : Type 0 where
  pub path : child.path ≡ member_path parent.path declared.name.text
  pub template : template_number spec declared.template.text ≡ Some child.template
  pub ports : map (λ a. neighbor parent t a.text) declared.args ≡ map Some child.ports

-- the instances below a number are those up to another one, in preorder
mutual
  pub data IsSubtree (spec : SpecTree) (nodes : List InstanceNode) : ℕ → ℕ → Type 0 where
    subtree : {at end : ℕ} {node : InstanceNode} {t : TemplateTree} →
        slice_get nodes at ≡ Some node → slice_get spec.templates node.template ≡ Some t →
        IsForest spec nodes node t t.instances node.children (at + 1) end → IsSubtree spec nodes at end

  -- instances that a template declares one behind the other, each with all that lie below it
  pub data IsForest (spec : SpecTree) (nodes : List InstanceNode) :
      InstanceNode → TemplateTree → List InstanceTree → List ℕ → ℕ → ℕ → Type 0 where
    none_left : {parent : InstanceNode} {t : TemplateTree} {end : ℕ} → IsForest spec nodes parent t [] [] end end
    one_more : {parent child : InstanceNode} {t : TemplateTree} {first : InstanceTree} {others : List InstanceTree}
        {children : List ℕ} {at middle end : ℕ} →
        slice_get nodes at ≡ Some child → IsDeclared spec parent t first child →
        IsSubtree spec nodes at middle → IsForest spec nodes parent t others children middle end →
        IsForest spec nodes parent t (first ∷ others) (at ∷ children) at end

-- the first instance is of `main`, has no ports, and all others lie below it
pub record AreInstances (spec : SpecTree) (nodes : List InstanceNode) : Type 0 where
  pub path : option_map (λ (n : InstanceNode). n.path) (slice_get nodes 0) ≡ Some []
  pub template : template_number spec (codes "main") ≡ option_map (λ (n : InstanceNode). n.template) (slice_get nodes 0)
  pub ports : option_map (λ (n : InstanceNode). n.ports) (slice_get nodes 0) ≡ Some []
  pub all : IsSubtree spec nodes 0 (length nodes)

-- the value of an initial literal
abbrev pub literal_value : SpecTree → ExprTree → ℕ
literal_value spec (truth _ b) = if b then 1 else 0
literal_value spec (number n) = number_of n
literal_value spec (path (name ∷ [])) = unwrap_or (constant_value spec name.text) 0
literal_value spec _ = 0

-- the paths of the variables that a declaration gives: its own, or one for each element of an array
abbrev pub element_paths : Option Num → List ℕ → List (List ℕ)
element_paths None base = base ∷ []
element_paths (Some n) base = map (λ k. base ++ 46 ∷ decimal k) (range_with_len 0 (number_of n))

-- the variables of a declaration of an instance's template
abbrev pub declared_vars : SpecTree → ℕ → List ℕ → VarTree → List Var
declared_vars spec i base d =
    map (λ p. record { path = p; ty = type_of d.ty; init = option_map (literal_value spec) d.init; instance = i })
    (element_paths d.size (member_path base d.name.text))

-- the variable in which a parameter or local of a body is kept
abbrev pub kept_var : ℕ → List ℕ → TypeName → Ident → Var
kept_var i base ty name = record { path = base ++ 46 ∷ name.text; ty = type_of ty; init = Some 0; instance = i }

-- the variables of a process: its locals
abbrev pub process_vars : ℕ → List ℕ → ProcessTree → List Var
process_vars i base p = map (λ l. kept_var i (member_path base p.name.text) l.ty l.name) p.body.locals

-- the variables of a task: its parameters and locals, where they are kept
abbrev pub task_vars : SpecTree → TemplateTree → ℕ → List ℕ → TaskTree → List Var
task_vars spec t i base k =
    if is_kept spec t k
    then (map (λ p. kept_var i (member_path base k.name.text) p.ty p.name) k.params
    ++ map (λ l. kept_var i (member_path base k.name.text) l.ty l.name) k.body.locals)
    else []

-- the template of an instance
abbrev pub template_of : SpecTree → InstanceNode → List TemplateTree
template_of spec node = option_to_list (slice_get spec.templates node.template)

-- the variables of an instance: its template's, then its processes', then its tasks'
abbrev pub instance_vars : SpecTree → ℕ × InstanceNode → List Var
instance_vars spec i =
    flat_map (λ t. flat_map (declared_vars spec i.0 i.1.path) t.vars
    ++ flat_map (process_vars i.0 i.1.path) t.processes
    ++ flat_map (task_vars spec t i.0 i.1.path) t.tasks) (template_of spec i.1)

-- the items of one sort of an instance: those of its template that count, by their indices there
abbrev pub instance_items : {X : Type 0} → (TemplateTree → List X) → (X → Bool) → (X → Ident) → SpecTree →
    ℕ × InstanceNode → List Item
instance_items sort counts name spec i =
    flat_map (λ t. filter_map (λ x. then_some (counts x.1) (record {
      path = member_path i.1.path (name x.1).text;
      instance = i.0;
      index = Some x.0;
    })) (enumerate_from 0 (sort t)))
    (template_of spec i.1)

-- the items of one sort, instance by instance
abbrev pub all_items : {X : Type 0} → (TemplateTree → List X) → (X → Bool) → (X → Ident) → SpecTree →
    List InstanceNode → List Item
all_items sort counts name spec nodes = flat_map (instance_items sort counts name spec) (enumerate_from 0 nodes)

-- a design without a goal gets one, named `true`
abbrev pub with_goal : List Item → List Item
with_goal [] = record { path = codes "true"; instance = 0; index = None } ∷ []
with_goal (g ∷ gs) = g ∷ gs

-- a design is numbered as its tree says
pub record IsDesign (d : DesignTree) : Type 0 where
  pub instances : AreInstances d.spec d.instances
  pub vars : d.vars ≡ flat_map (instance_vars d.spec) (enumerate_from 0 d.instances)
  pub processes : d.processes
      ≡ all_items (λ t. t.processes) (λ _. true) (λ (p : ProcessTree). p.name) d.spec d.instances
  pub tasks : d.tasks
      ≡ all_items (λ t. t.tasks) (λ (k : TaskTree). is_controllable k.kind) (λ (k : TaskTree). k.name) d.spec
      d.instances
  pub goals : d.goals ≡ with_goal (all_items (λ t. t.goals) (λ _. true) (λ (g : NamedTree). g.name) d.spec d.instances)
  pub fairs : d.fairs ≡ all_items (λ t. t.fairs) (λ _. true) (λ (f : NamedTree). f.name) d.spec d.instances
