-- What a name means in a body of a template, by the text alone.
use Rattle.std.specs.Prelude.{ℕ, Bool, true, Option, None, List, [], ◌∷◌, ◌++◌, map, find, nat_eq, slice_get}
use Rattle.std.specs.Option.{option_map, option_and_then}
use Rattle.std.specs.Cmp.Lexicographic.{pointwise}
use Rattle.tm_syntax.specs.declared.tree.Ident.{Ident}
use Rattle.tm_syntax.specs.declared.tree.Param.{Param}
use Rattle.tm_syntax.specs.declared.design.Ty.{Ty}
use Rattle.tm_syntax.specs.Tree.{BodyTree, LocalTree, VarTree, ProcessTree, TaskTree, TemplateTree, SpecTree}
use Rattle.tm_syntax.specs.Scopes.Names.{is_spelled, type_of, last_name, template_along}
use Rattle.tm_syntax.specs.Scopes.Pauses.{is_kept}

-- a body of a template, by its number there, or none: goals and fairness conditions stand outside of all bodies
pub data BodyName : Type 0 where
  process_body : ℕ → BodyName
  task_body : ℕ → BodyName
  outside : BodyName

-- where a part of the text stands: in a body of a template
pub record Context : Type 0 where
  pub spec : SpecTree
  pub template : TemplateTree
  pub body : BodyName

-- a parameter or a local of a body
pub record Slot : Type 0 where
  pub name : List ℕ
  pub ty : Ty

-- a parameter, with its type
abbrev pub param_slot : Param → Slot
param_slot p = record { name = p.name.text; ty = type_of p.ty }

-- a local, with its type
abbrev pub local_slot : LocalTree → Slot
local_slot l = record { name = l.name.text; ty = type_of l.ty }

-- a body with its name, its parameters and locals, and whether these are kept in the state
pub record Frame : Type 0 where
  pub name : List ℕ
  pub slots : List Slot
  pub kept : Bool
  pub body : BodyTree

-- a process's locals are kept
abbrev pub process_frame : ProcessTree → Frame
process_frame p = record { name = p.name.text; slots = map local_slot p.body.locals; kept = true; body = p.body }

-- a task's parameters come before its locals
abbrev pub task_frame : SpecTree → TemplateTree → TaskTree → Frame
task_frame spec t k = record {
  name = k.name.text;
  slots = map param_slot k.params ++ map local_slot k.body.locals;
  kept = is_kept spec t k;
  body = k.body;
}

-- the body of a name in a template
abbrev pub frame_of : SpecTree → TemplateTree → BodyName → Option Frame
frame_of spec t (process_body k) = option_map process_frame (slice_get t.processes k)
frame_of spec t (task_body k) = option_map (task_frame spec t) (slice_get t.tasks k)
frame_of spec t outside = None

-- the parameter or local of this name
abbrev pub slot_named : Frame → List ℕ → Option Slot
slot_named frame name = find (λ s. pointwise nat_eq name s.name) frame.slots

-- the parameter or local that a path of one name means
abbrev pub slot_of : Context → List Ident → Option Slot
slot_of c (name ∷ []) = option_and_then (λ frame. slot_named frame name.text) (frame_of c.spec c.template c.body)
slot_of c _ = None

-- the variable or array that a path means, of the template in which it ends
abbrev pub variable_of : Context → List Ident → Option VarTree
variable_of c path =
    option_and_then (λ t. find (λ v. is_spelled (last_name path) v.name) t.vars) (template_along c.spec c.template path)
