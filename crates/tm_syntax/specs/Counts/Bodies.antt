-- What is counted over the statements of bodies, with called bodies at each call: statements and locations; and the
-- bits of the state and of arguments.
use Rattle.std.specs.Prelude.{ℕ, zero, suc, ◌+◌, ◌-◌, ◌*◌, List, ◌++◌, map, sum_by, if◌then◌else◌}
use Rattle.std.specs.Option.{option_map_or}
use Rattle.std.specs.List.{enumerate_from, filter}
use Rattle.tm_syntax.specs.declared.tree.Param.{Param}
use Rattle.tm_syntax.specs.Tree.{StmtTree, LocalTree, VarTree, ProcessTree, TaskTree, TemplateTree, SpecTree}
use Rattle.tm_syntax.specs.Scopes.Names.{number_of, type_of}
use Rattle.tm_syntax.specs.Scopes.Pauses.{is_controllable, is_kept, call_depth}
use Rattle.tm_syntax.specs.Scopes.Parts.{BodyAt, process_body_at, task_body_at, stmts_in, own_calls}
use Rattle.tm_syntax.specs.Scopes.Calls.{callee}
use Rattle.tm_syntax.specs.Design.Sizes.{type_bits, bits_of_number}
use Rattle.tm_syntax.specs.Faults.Crossings.{is_location}
use Rattle.tm_syntax.specs.Counts.Instances.{total, greatest_of, count_processes}

-- the sum of a weight over all statements of a body, and over those of called bodies at each call, where calls nest at
-- most so deep
abbrev pub weight_below : (StmtTree → ℕ) → ℕ → BodyAt → ℕ
weight_below weight zero b = 0
weight_below weight (suc depth) b =
    sum_by (λ s. weight s + sum_by (λ path. option_map_or (weight_below weight depth) (callee b.context path) 0)
    (own_calls s)) (stmts_in b.body)

-- the sum of a weight over a body's statements, and over those of called bodies at each call, as deep as calls nest
abbrev pub weight_of : (StmtTree → ℕ) → BodyAt → ℕ
weight_of weight b = weight_below weight (suc (call_depth b.context.spec)) b

-- the processes of a template, as bodies
abbrev pub process_bodies : SpecTree → TemplateTree → List BodyAt
process_bodies spec t = map (process_body_at spec t) (enumerate_from 0 t.processes)

-- the controllable tasks of a template, as bodies
abbrev pub controllable_bodies : SpecTree → TemplateTree → List BodyAt
controllable_bodies spec t =
    map (task_body_at spec t) (filter (λ (k : ℕ × TaskTree). is_controllable k.1.kind) (enumerate_from 0 t.tasks))

-- the bodies that steps begin with
abbrev pub step_bodies : SpecTree → TemplateTree → List BodyAt
step_bodies spec t = process_bodies spec t ++ controllable_bodies spec t

-- the statements of processes and controllable tasks, with called bodies counted at each call
abbrev pub count_statements : SpecTree → ℕ
count_statements spec = total spec (λ t. sum_by (weight_of (λ _. 1)) (step_bodies spec t))

-- the locations of a process, its start and its end included
abbrev pub process_locations : BodyAt → ℕ
process_locations b = 2 + weight_of (λ s. if is_location s then 1 else 0) b

-- the greatest number of locations of one process
abbrev pub count_locations : SpecTree → ℕ
count_locations spec = greatest_of spec (λ t. map process_locations (process_bodies spec t))

-- the bits of a template variable, or of all elements of an array
abbrev pub var_bits : SpecTree → VarTree → ℕ
var_bits spec v = option_map_or number_of v.size 1 * type_bits spec (type_of v.ty)

-- the bits of locals
abbrev pub local_bits : SpecTree → List LocalTree → ℕ
local_bits spec locals = sum_by (λ (l : LocalTree). type_bits spec (type_of l.ty)) locals

-- the bits of parameters
abbrev pub param_bits : SpecTree → List Param → ℕ
param_bits spec params = sum_by (λ (p : Param). type_bits spec (type_of p.ty)) params

-- the bits of a task: its parameters and locals, where they are kept
abbrev pub task_bits : SpecTree → TemplateTree → TaskTree → ℕ
task_bits spec t k = if is_kept spec t k then param_bits spec k.params + local_bits spec k.body.locals else 0

-- the bits of the variables of an instance of a template: its own, and the parameters and locals that are kept
abbrev pub variable_bits : SpecTree → TemplateTree → ℕ
variable_bits spec t =
    sum_by (var_bits spec) t.vars + sum_by (λ (p : ProcessTree). local_bits spec p.body.locals) t.processes
    + sum_by (task_bits spec t) t.tasks

-- the bits of a process's location, of which the last one has the greatest number
abbrev pub location_bits : BodyAt → ℕ
location_bits b = bits_of_number (process_locations b - 1)

-- the bits of an instance of a template
abbrev pub template_bits : SpecTree → TemplateTree → ℕ
template_bits spec t = variable_bits spec t + sum_by location_bits (process_bodies spec t)

-- the state bits: those of all instances, and those of `last`, which is at most one more than there are processes
abbrev pub count_state : SpecTree → ℕ
count_state spec = total spec (template_bits spec) + bits_of_number (count_processes spec + 1)

-- the greatest number of parameter bits of one controllable task
abbrev pub count_arguments : SpecTree → ℕ
count_arguments spec =
    greatest_of spec (λ t. map (λ (k : TaskTree). param_bits spec k.params)
    (filter (λ (k : TaskTree). is_controllable k.kind) t.tasks))
