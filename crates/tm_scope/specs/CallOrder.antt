-- Orders of tasks in which each stands behind all that it calls.
use Rattle.std.specs.Prelude.{◌≡◌, ℕ, ◌<◌, Some, List, slice_get}
use Rattle.tm_syntax.specs.declared.member.Member.{Member}
use Rattle.tm_syntax.specs.Tree.{SpecTree, TaskTree}
use Rattle.tm_syntax.specs.Scopes.Calls.{Calls, numbered_task}

-- each task of the order stands behind all that it calls
pub record IsCallOrder (spec : SpecTree) (order : List Member) : Type 0 where
  pub behind : (k : ℕ) (m callee : Member) → slice_get order k ≡ Some m → Calls spec m callee →
      (j : ℕ) × (j < k) × (slice_get order j ≡ Some callee)

-- each task of the text stands in the order
abbrev pub CoversTasks : SpecTree → List Member → Type 0
CoversTasks spec order =
    (m : Member) (task : TaskTree) → numbered_task spec m ≡ Some task → (k : ℕ) × (slice_get order k ≡ Some m)
