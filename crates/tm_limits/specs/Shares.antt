-- What an instance of a template adds to each count: by itself, by its processes and by its tasks.
use Rattle.std.specs.Prelude.{ℕ, suc, ◌+◌, ◌≤◌, List, length, map, sum_by, if◌then◌else◌}
use Rattle.std.specs.List.{enumerate_from}
use Rattle.tm_syntax.specs.declared.fault.Quantity.{Quantity}
use Rattle.tm_syntax.specs.declared.fault.Quantity.TheVariants as quantity
use Rattle.tm_syntax.specs.declared.member.Member.{Member}
use Rattle.tm_syntax.specs.Tree.{ProcessTree, TaskTree, TemplateTree, SpecTree}
use Rattle.tm_syntax.specs.Scopes.Parts.{process_body_at, task_body_at}
use Rattle.tm_syntax.specs.Scopes.Pauses.{call_depth, is_controllable}
use Rattle.tm_syntax.specs.Design.Sizes.{bits_of_number}
use Rattle.tm_syntax.specs.Counts.Bodies.{weight_of, process_locations, var_bits, local_bits, param_bits, task_bits, location_bits}
use Rattle.tm_syntax.specs.Counts.Choices.{body_paths, path_sums}
use Rattle.tm_syntax.specs.Counts.Instances.{greatest, instance_templates, count_processes}
use Rattle.tm_scope.specs.CallOrder.{CoversTasks, IsCallOrder}
use Rattle.tm_scope.specs.Cells.{ArePausing}
use Rattle.tm_limits.specs.declared.totals.Combination.{Combination}
use Rattle.tm_limits.specs.declared.totals.Combination.TheVariants.{Sum, Greatest}
use Rattle.tm_limits.specs.declared.shares.TaskCounts.{TaskCounts}
use Rattle.tm_limits.specs.declared.weights.Weight.TheVariants as weight
use Rattle.tm_limits.specs.Inner.Weights as weights
use Rattle.tm_limits.specs.TaskBodies.{HasPaths, HasWeights}
use Rattle.tm_limits.specs.Totals.{combined, over}

-- how the counts of instances are put together
abbrev pub combination_of : Quantity → Combination
combination_of quantity.Choices = Greatest
combination_of quantity.Arguments = Greatest
combination_of quantity.Locations = Greatest
combination_of _ = Sum

-- what an instance adds by itself
abbrev pub template_share : SpecTree → Quantity → TemplateTree → ℕ
template_share spec quantity.Instances t = 1
template_share spec quantity.Goals t = length t.goals
template_share spec quantity.Fairness t = length t.fairs
template_share spec quantity.State t = sum_by (var_bits spec) t.vars
template_share spec _ t = 0

-- what a process adds
abbrev pub process_share : SpecTree → Quantity → TemplateTree → ℕ × ProcessTree → ℕ
process_share spec quantity.Statements t p = weight_of (λ _. 1) (process_body_at spec t p)
process_share spec quantity.Processes t p = 1
process_share spec quantity.Fairness t p = if p.1.lazy then 0 else 1
process_share spec quantity.State t p = local_bits spec p.1.body.locals + location_bits (process_body_at spec t p)
process_share spec quantity.Choices t p =
    greatest (path_sums (body_paths (suc (call_depth spec)) (process_body_at spec t p)))
process_share spec quantity.Locations t p = process_locations (process_body_at spec t p)
process_share spec _ t p = 0

-- what a controllable task adds
abbrev pub controllable_share : SpecTree → Quantity → TemplateTree → ℕ × TaskTree → ℕ
controllable_share spec quantity.Statements t k = weight_of (λ _. 1) (task_body_at spec t k)
controllable_share spec quantity.Tasks t k = 1
controllable_share spec quantity.Choices t k =
    greatest (path_sums (body_paths (suc (call_depth spec)) (task_body_at spec t k)))
controllable_share spec quantity.Arguments t k = param_bits spec k.1.params
controllable_share spec _ t k = 0

-- what a task adds: to the state, what is kept of it, and otherwise what it adds where the driver may call it
abbrev pub task_share : SpecTree → Quantity → TemplateTree → ℕ × TaskTree → ℕ
task_share spec quantity.State t k = task_bits spec t k.1
task_share spec q t k = if is_controllable k.1.kind then controllable_share spec q t k else 0

-- what an instance adds with its processes and tasks
abbrev pub own_share : SpecTree → Quantity → TemplateTree → ℕ
own_share spec q t =
    combined (combination_of q)
    (combined (combination_of q) (template_share spec q t)
    (over (combination_of q) (map (process_share spec q t) (enumerate_from 0 t.processes))))
    (over (combination_of q) (map (task_share spec q t) (enumerate_from 0 t.tasks)))

-- what all instances add
abbrev pub all_shares : SpecTree → Quantity → ℕ
all_shares spec q = over (combination_of q) (map (own_share spec q) (instance_templates spec))

-- what is counted beside: the driver's fairness condition, and the bits of the last move
abbrev pub whole_count : SpecTree → Quantity → ℕ
whole_count spec quantity.Fairness = 1 + all_shares spec quantity.Fairness
whole_count spec quantity.State = all_shares spec quantity.State + bits_of_number (count_processes spec + 1)
whole_count spec q = all_shares spec q

-- these are the counts over the bodies of all tasks of a text
pub record AreTaskCounts (spec : SpecTree) (counts : TaskCounts) : Type 0 where
  pub order : List Member
  pub ordered : IsCallOrder spec order
  pub covers : CoversTasks spec order
  pub short : length order ≤ call_depth spec
  pub pausing : ArePausing spec counts.pausing
  pub statements : HasWeights spec (weights.weight_of weight.Statements) order (length order) counts.statements.entries
  pub locations : HasWeights spec (weights.weight_of weight.Locations) order (length order) counts.locations.entries
  pub paths : HasPaths spec order (length order) counts.paths.entries
