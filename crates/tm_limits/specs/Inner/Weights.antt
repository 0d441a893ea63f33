-- What statements weigh, given the weights of the bodies that they call.
use Rattle.std.specs.Prelude.{ℕ, ◌+◌, List, sum_by, unwrap_or, if◌then◌else◌}
use Rattle.std.specs.Map.{lookup}
use Rattle.std.specs.Option.{option_map_or}
use Rattle.tm_syntax.specs.declared.member.Member.{Member}
use Rattle.tm_syntax.specs.declared.tree.Ident.{Ident}
use Rattle.tm_syntax.specs.declared.tree.Spec.{Spec}
use Rattle.tm_syntax.specs.Tree.{StmtTree}
use Rattle.tm_syntax.specs.Tree.View.{spec_tree}
use Rattle.tm_syntax.specs.Scopes.Calls.{task_number}
use Rattle.tm_syntax.specs.Scopes.Parts.{own_calls}
use Rattle.tm_syntax.specs.Faults.Crossings.{is_location}
use Rattle.tm_scope.specs.Marks.{same_task}
use Rattle.tm_limits.specs.declared.weights.Weight.{Weight}
use Rattle.tm_limits.specs.declared.weights.Weight.TheVariants.{Statements, Locations}

-- what a statement weighs
abbrev pub weight_of : Weight → StmtTree → ℕ
weight_of Statements s = 1
weight_of Locations s = if is_location s then 1 else 0

-- the weights of the bodies of tasks to which paths lead from a template
pub record WeightTable : Type 0 where
  pub spec : Spec
  pub from : ℕ
  pub weight : Weight
  pub weights : List (Member × ℕ)

-- the weight that stands beside a task
abbrev pub weight_in : List (Member × ℕ) → Member → ℕ
weight_in weights m = unwrap_or (lookup (same_task m) weights) 0

-- the weight of the body that a path calls
abbrev pub call_weight : WeightTable → List Ident → ℕ
call_weight x path = option_map_or (weight_in x.weights) (task_number (spec_tree x.spec) x.from path) 0

-- the weights of some statements and of what they call
abbrev pub sum_weights : WeightTable → List StmtTree → ℕ
sum_weights x ss = sum_by (λ s. weight_of x.weight s + sum_by (call_weight x) (own_calls s)) ss
