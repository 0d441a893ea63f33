-- The tasks of a text as the nodes of a graph, and a walk over it.
use Rattle.std.specs.Prelude.{◌≡◌, ℕ, ◌<◌, ◌≤◌, true, false, Some, List, [], length, map, slice_get}
use Rattle.std.specs.List.{filter_map}
use Rattle.std.specs.Option.{option_map_or}
use Rattle.tm_syntax.specs.declared.member.Member.{Member}
use Rattle.tm_syntax.specs.declared.tree.Spec.{Spec}
use Rattle.tm_syntax.specs.Tree.{SpecTree, TaskTree}
use Rattle.tm_syntax.specs.Tree.View.{spec_tree}
use Rattle.tm_syntax.specs.Scopes.Calls.{body_calls, numbered_task}
use Rattle.tm_syntax.specs.Scopes.Pauses.{call_depth}
use Rattle.tm_scope.specs.declared.graph.Walked.{Walked}
use Rattle.tm_scope.specs.Graph.{IsWalk}
use Rattle.tm_scope.specs.Marks.{is_in, marked_number}

-- these are all tasks of a text
pub record AreAllTasks (spec : SpecTree) (tasks : List Member) : Type 0 where
  pub sound : (m : Member) → is_in tasks m ≡ true → (task : TaskTree) × (numbered_task spec m ≡ Some task)
  pub complete : (m : Member) (task : TaskTree) → numbered_task spec m ≡ Some task → is_in tasks m ≡ true
  pub few : length tasks ≤ call_depth spec

-- the numbers among some tasks of those that a task calls
abbrev pub callees_at : Spec → List Member → Member → List ℕ
callees_at s tasks m =
    option_map_or (λ (task : TaskTree).
    filter_map (marked_number (record { spec = s; from = m.template; tasks = tasks })) (body_calls task.body))
    (numbered_task (spec_tree s) m) []

-- a walk over all tasks of a text along their calls
pub record IsCallWalk (s : Spec) (tasks : List Member) (order : List Walked) : Type 0 where
  pub all : AreAllTasks (spec_tree s) tasks
  pub walk : IsWalk (map (callees_at s tasks) tasks) order

-- each node of an order has a task
abbrev pub HaveTasks : List Member → List Walked → Type 0
HaveTasks tasks order =
    (k : ℕ) (w : Walked) → slice_get order k ≡ Some w → (m : Member) × (slice_get tasks w.node ≡ Some m)

-- the tasks of the first nodes of an order, none of which loops
pub record AreOrdered (tasks : List Member) (order : List Walked) (i : ℕ) (found : List Member) : Type 0 where
  pub long : length found ≡ i
  pub task : (k : ℕ) (w : Walked) (m : Member) → k < i → slice_get order k ≡ Some w →
      slice_get tasks w.node ≡ Some m → slice_get found k ≡ Some m
  pub straight : (k : ℕ) (w : Walked) → k < i → slice_get order k ≡ Some w → w.loops ≡ false

-- some node of an order loops
abbrev pub SomeLoops : List Walked → Type 0
SomeLoops order = (k : ℕ) × (w : Walked) × (slice_get order k ≡ Some w) × (w.loops ≡ true)

-- the tasks of those of the first nodes of an order that loop
pub record AreLooping (tasks : List Member) (order : List Walked) (i : ℕ) (looping : List Member) : Type 0 where
  pub sound : (m : Member) → is_in looping m ≡ true →
      (k : ℕ) × (w : Walked) × (slice_get order k ≡ Some w) × (w.loops ≡ true) × (slice_get tasks w.node ≡ Some m)
  pub complete : (k : ℕ) (w : Walked) (m : Member) → k < i → slice_get order k ≡ Some w → w.loops ≡ true →
      slice_get tasks w.node ≡ Some m → is_in looping m ≡ true
