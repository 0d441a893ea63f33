-- What the names of a body mean in a design: state variables, parameters and locals that live for one step, and bodies.
use Rattle.std.specs.Prelude.{ℕ, Option, None, Some, List, [], ◌∷◌, ◌++◌, position, nat_eq, slice_get, if◌then◌else◌}
use Rattle.std.specs.Option.{option_map, option_and_then, option_to_list}
use Rattle.std.specs.List.{filter_map}
use Rattle.std.specs.Fmt.{decimal}
use Rattle.std.specs.Cmp.Lexicographic.{pointwise}
use Rattle.tm_syntax.specs.declared.tree.Ident.{Ident}
use Rattle.tm_syntax.specs.declared.design.Ty.{Ty}
use Rattle.tm_syntax.specs.Tree.{BodyTree}
use Rattle.tm_syntax.specs.Scopes.Names.{is_spelled, last_name}
use Rattle.tm_syntax.specs.Scopes.Context.{task_body, Slot, param_slot, Frame, task_frame, frame_of, slot_named}
use Rattle.tm_syntax.specs.Design.{DesignTree, InstanceNode, member_path}
use Rattle.tm_syntax.specs.Design.Scope.{Scope, Site, site, site_along}

-- where a value is: in a state variable, or in a parameter or local that lives for one step
pub data Cell : Type 0 where
  in_state : ℕ → Cell
  in_step : Scope → List ℕ → Ty → Cell

-- the state variable of this path
abbrev pub variable_at : DesignTree → List ℕ → Option Cell
variable_at d path = option_map in_state (position (λ v. pointwise nat_eq path v.path) d.vars)

-- the path of a variable of an instance, or of an element of an array
abbrev pub variable_path : InstanceNode → List ℕ → Option ℕ → List ℕ
variable_path node name None = member_path node.path name
variable_path node name (Some k) = member_path node.path name ++ 46 ∷ decimal k

-- the cell of a parameter or local
abbrev pub slot_cell : DesignTree → Scope → Site → Frame → Slot → Option Cell
slot_cell d scope at frame slot =
    if frame.kept
    then variable_at d (member_path at.node.path frame.name ++ 46 ∷ slot.name)
    else Some (in_step scope slot.name slot.ty)

-- the parameter or local that a path of one name means
abbrev pub own_cell : DesignTree → Scope → Site → List Ident → Option Cell
own_cell d scope at (name ∷ []) =
    option_and_then (λ frame. option_and_then (slot_cell d scope at frame) (slot_named frame name.text))
    (frame_of d.spec at.template scope.body)
own_cell d scope at _ = None

-- the variable or array element that a path means from an instance
abbrev pub member_cell : DesignTree → Site → List Ident → Option ℕ → Option Cell
member_cell d at path index =
    option_and_then (λ s. variable_at d (variable_path s.node (last_name path) index)) (site_along d at path)

-- the cell that a path means in a body, with the index of an element: a parameter or local before a member
abbrev pub cell : DesignTree → Scope → List Ident → Option ℕ → Option Cell
cell d scope path index =
    option_and_then (λ at. slice_get (option_to_list (own_cell d scope at path)
    ++ option_to_list (member_cell d at path index)) 0) (site d scope.instance)

-- the type of what a cell holds
abbrev pub cell_type : DesignTree → Cell → Option Ty
cell_type d (in_state k) = option_map (λ v. v.ty) (slice_get d.vars k)
cell_type d (in_step scope name ty) = Some ty

-- a body that a path calls: its scope, the cells of its parameters in order, and the body
pub record Called : Type 0 where
  pub scope : Scope
  pub params : List Cell
  pub body : BodyTree

-- the task of this number in an instance's template, as a call runs it
abbrev pub task_called : DesignTree → Site → ℕ → Option Called
task_called d at k =
    option_map (λ task. record {
      scope = record { instance = at.number; body = task_body k };
      params = filter_map
          (λ p.
          slot_cell d (record { instance = at.number; body = task_body k }) at (task_frame d.spec at.template task)
          (param_slot p))
          task.params;
      body = task.body;
    }) (slice_get at.template.tasks k)

-- the task or procedure that a path means
abbrev pub called : DesignTree → Scope → List Ident → Option Called
called d scope path =
    option_and_then (λ at. option_and_then (λ s. option_and_then (task_called d s)
    (position (λ task. is_spelled (last_name path) task.name) s.template.tasks))
    (site_along d at path)) (site d scope.instance)
