-- The choice bits on the paths of a part of a body, of which the greatest sums are kept.
use Rattle.std.specs.Prelude.{◌≡◌, ℕ, ◌+◌, max, Option, None, Some, List, [], ◌∷◌, unwrap_or}
use Rattle.std.specs.Map.{lookup}
use Rattle.std.specs.Option.{option_map_or}
use Rattle.tm_syntax.specs.Counts.Choices as sums
use Rattle.tm_syntax.specs.Counts.Instances.{greatest}
use Rattle.tm_syntax.specs.declared.member.Member.{Member}
use Rattle.tm_syntax.specs.declared.tree.Ident.{Ident}
use Rattle.tm_syntax.specs.Tree.{SpecTree}
use Rattle.tm_syntax.specs.Tree.View.{spec_tree}
use Rattle.tm_syntax.specs.Scopes.Calls.{task_number}
use Rattle.tm_scope.specs.Context.{BodyPlace}
use Rattle.tm_scope.specs.Marks.{same_task}
use Rattle.tm_limits.specs.declared.paths.Paths.{Paths}
use Rattle.tm_limits.specs.Amount.{capped}

-- the greatest of some sums, or none where there is none
abbrev pub best : List ℕ → Option ℕ
best [] = None
best (n ∷ ns) = Some (capped (greatest (n ∷ ns)))

-- the greater of two sums that may be there
abbrev pub greater_of : Option ℕ → Option ℕ → Option ℕ
greater_of None other = other
greater_of (Some a) None = Some a
greater_of (Some a) (Some b) = Some (max a b)

-- the sum of two that are both there
abbrev pub joined_of : Option ℕ → Option ℕ → Option ℕ
joined_of None other = None
joined_of (Some a) None = None
joined_of (Some a) (Some b) = Some (capped (a + b))

-- these are the greatest sums on the paths of a part
pub record AreBest (kept : Paths) (paths : sums.Paths) : Type 0 where
  pub across : kept.across ≡ best paths.across
  pub inward : kept.inward ≡ best paths.inward
  pub outward : kept.outward ≡ best paths.outward
  pub between : kept.between ≡ best paths.between

-- one path across, on which nothing is chosen
abbrev pub nothing_chosen : Paths
nothing_chosen = record { across = Some 0; inward = None; outward = None; between = None }

-- the paths of the bodies of tasks, to which paths of names lead from a body of the template of a number
pub record PathTable : Type 0 where
  pub place : BodyPlace
  pub from : ℕ
  pub paths : List (Member × Paths)

-- the paths that stand beside a task
abbrev pub paths_in : List (Member × Paths) → Member → Paths
paths_in paths m = unwrap_or (lookup (same_task m) paths) nothing_chosen

-- the paths of the body that a path of names calls, from the template of a number
abbrev pub called_paths : SpecTree → ℕ → List (Member × Paths) → List Ident → Paths
called_paths spec from paths path = option_map_or (paths_in paths) (task_number spec from path) nothing_chosen

-- the paths of the body that a path of names calls, from the body of a table
abbrev pub call_paths : PathTable → List Ident → Paths
call_paths x path = called_paths (spec_tree x.place.spec) x.from x.paths path

-- the table has the greatest sums on the paths of all that may be called
abbrev pub AreKnown : PathTable → (List Ident → sums.Paths) → Type 0
AreKnown x within = (path : List Ident) → AreBest (call_paths x path) (within path)
