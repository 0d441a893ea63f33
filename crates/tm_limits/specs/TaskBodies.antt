-- What is counted over the bodies of tasks, by their numbers.
use Rattle.std.specs.Prelude.{◌≡◌, ℕ, suc, ◌<◌, Option, Some, List, slice_get}
use Rattle.std.specs.Option.{option_map, option_map_or}
use Rattle.tm_syntax.specs.declared.member.Member.{Member}
use Rattle.tm_syntax.specs.Tree.{SpecTree, StmtTree}
use Rattle.tm_syntax.specs.Scopes.Parts.{BodyAt, task_body_at}
use Rattle.tm_syntax.specs.Scopes.Pauses.{call_depth}
use Rattle.tm_syntax.specs.Counts.Bodies.{weight_below}
use Rattle.tm_syntax.specs.Counts.Choices as sums
use Rattle.tm_syntax.specs.Counts.Choices.{body_paths, choosing}
use Rattle.tm_scope.specs.Members.{task_at}
use Rattle.tm_limits.specs.declared.paths.Paths.{Paths}
use Rattle.tm_limits.specs.Amount.{capped}
use Rattle.tm_limits.specs.Inner.PathSums.{AreBest, paths_in}
use Rattle.tm_limits.specs.Inner.Weights.{weight_in}

-- the body of the task of a number
abbrev pub numbered_body : SpecTree → Member → Option BodyAt
numbered_body spec m = option_map (λ t. task_body_at spec t.0 (m.index, t.1)) (task_at spec m)

-- what the body of the task of a number weighs
abbrev pub weight_at : SpecTree → (StmtTree → ℕ) → Member → ℕ
weight_at spec weight m = option_map_or (weight_below weight (suc (call_depth spec))) (numbered_body spec m) 0

-- the paths of the body of the task of a number
abbrev pub paths_at : SpecTree → Member → sums.Paths
paths_at spec m = option_map_or (body_paths (suc (call_depth spec))) (numbered_body spec m) (choosing 0)

-- a table has the weights of the first tasks of an order
abbrev pub HasWeights : SpecTree → (StmtTree → ℕ) → List Member → ℕ → List (Member × ℕ) → Type 0
HasWeights spec weight order i weights =
    (k : ℕ) (m : Member) → k < i → slice_get order k ≡ Some m → weight_in weights m ≡ capped (weight_at spec weight m)

-- a table has the greatest sums on the paths of the first tasks of an order
pub record HasPaths (spec : SpecTree) (order : List Member) (i : ℕ) (paths : List (Member × Paths)) : Type 0 where
  pub known : Member → sums.Paths
  pub best : (m : Member) → AreBest (paths_in paths m) (known m)
  pub so_far : (k : ℕ) (m : Member) → k < i → slice_get order k ≡ Some m → known m ≡ paths_at spec m
