-- Members of templates and slots of bodies, by numbers.
use Rattle.std.specs.Prelude.{ℕ, Option, None, List, position, slice_get}
use Rattle.std.specs.Option.{option_map, option_and_then}
use Rattle.tm_syntax.specs.declared.member.Member.{Member}
use Rattle.tm_syntax.specs.declared.tree.Ident.{Ident}
use Rattle.tm_syntax.specs.declared.tree.Template.{Template}
use Rattle.tm_syntax.specs.Tree.{SpecTree, TemplateTree, VarTree, TaskTree}
use Rattle.tm_syntax.specs.Tree.View.{local_tree}
use Rattle.tm_syntax.specs.Scopes.Calls.{number_along}
use Rattle.tm_syntax.specs.Scopes.Context.{Slot, param_slot, local_slot}
use Rattle.tm_syntax.specs.Scopes.Names.{is_spelled, last_name}
use Rattle.tm_scope.specs.Context.{BodyPlace}
use Rattle.tm_scope.specs.Inner.Tables.{BodySlots, process_slots, task_slots}
use Rattle.tm_scope.specs.declared.context.BodyName.{BodyName}
use Rattle.tm_scope.specs.declared.context.BodyName.TheVariants.{Process, Task, Outside}
use Rattle.tm_scope.specs.declared.members.SlotNumber.{SlotNumber}
use Rattle.tm_scope.specs.declared.members.SlotNumber.TheVariants.{Param, Local}

-- the variable or array of a number
abbrev pub var_at : SpecTree → Member → Option VarTree
var_at spec m = option_and_then (λ t. slice_get t.vars m.index) (slice_get spec.templates m.template)

-- the variable or array that a path means, from the template of a number
abbrev pub var_number : SpecTree → ℕ → List Ident → Option Member
var_number spec from path =
    option_and_then (λ n. option_and_then (λ t. option_map (λ k. record { template = n; index = k })
    (position (λ v. is_spelled (last_name path) v.name) t.vars)) (slice_get spec.templates n))
    (number_along spec from path)

-- the task or procedure of a number, with the template that declares it
abbrev pub task_at : SpecTree → Member → Option (TemplateTree × TaskTree)
task_at spec m =
    option_and_then (λ t. option_map (λ k. (t, k)) (slice_get t.tasks m.index)) (slice_get spec.templates m.template)

-- the parameters and locals of a body of a template
abbrev pub body_slots : Template → BodyName → Option BodySlots
body_slots t (Process k) = option_map process_slots (slice_get t.processes.items k)
body_slots t (Task k) = option_map task_slots (slice_get t.tasks.items k)
body_slots t Outside = None

-- the parameter or local of a number
abbrev pub numbered_slot : BodySlots → SlotNumber → Option Slot
numbered_slot body (Param k) = option_map param_slot (slice_get body.params k)
numbered_slot body (Local k) = option_map (λ l. local_slot (local_tree l)) (slice_get body.locals k)

-- the parameter or local of a number in the body of a place
abbrev pub slot_at : BodyPlace → SlotNumber → Option Slot
slot_at at slot = option_and_then (λ body. numbered_slot body slot) (body_slots at.template at.body)
