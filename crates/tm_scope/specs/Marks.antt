-- Sets of tasks, and which paths lead to a task of a set.
use Rattle.std.specs.Prelude.{◌≡◌, ℕ, Bool, true, false, Option, Some, ◌||◌, ◌&&◌, List, [], ◌∷◌, ◌++◌, nat_eq, position, slice_get, if◌then◌else◌}
use Rattle.std.specs.List.{list_any}
use Rattle.std.specs.Option.{option_and_then, option_map_or}
use Rattle.tm_syntax.specs.declared.tree.Ident.{Ident}
use Rattle.tm_syntax.specs.declared.tree.Spec.{Spec}
use Rattle.tm_syntax.specs.Tree.{SpecTree, BodyTree}
use Rattle.tm_syntax.specs.Tree.View.{spec_tree}
use Rattle.tm_syntax.specs.Scopes.Pauses.{value_pauses, stmt_pauses, may_pause, call_depth}
use Rattle.tm_syntax.specs.Scopes.Crossing.{value_crosses, stmt_crosses, body_crosses}
use Rattle.tm_syntax.specs.declared.member.Member.{Member}
use Rattle.tm_scope.specs.Members.{task_at}
use Rattle.tm_syntax.specs.Scopes.Calls.{task_number}

-- whether two numbers are of one task
abbrev pub same_task : Member → Member → Bool
same_task a b = nat_eq a.template b.template && nat_eq a.index b.index

-- whether a task is one of these
abbrev pub is_in : List Member → Member → Bool
is_in tasks m = list_any (same_task m) tasks

-- these tasks and one more, if it is none of them
abbrev pub with_task : List Member → Member → List Member
with_task tasks m = if is_in tasks m then tasks else tasks ++ m ∷ []

-- some tasks of a text, and the template from which paths lead to them
pub record CallTable : Type 0 where
  pub spec : Spec
  pub from : ℕ
  pub tasks : List Member

-- whether a path leads to one of the tasks
abbrev pub is_marked : CallTable → List Ident → Bool
is_marked x path = option_map_or (is_in x.tasks) (task_number (spec_tree x.spec) x.from path) false

-- the number among the tasks of the one to which a path leads
abbrev pub marked_number : CallTable → List Ident → Option ℕ
marked_number x path =
    option_and_then (λ m. position (same_task m) x.tasks) (task_number (spec_tree x.spec) x.from path)

-- whether a body may pause, given which calls may
abbrev pub pauses_by : (List Ident → Bool) → BodyTree → Bool
pauses_by called body =
    list_any (λ l. value_pauses called l.value) body.locals || list_any (stmt_pauses called) body.stmts

-- whether a body is sure to cross, given which calls are
abbrev pub crosses_by : (List Ident → Bool) → BodyTree → Bool
crosses_by called body =
    list_any (λ l. value_crosses called l.value) body.locals || list_any (stmt_crosses called) body.stmts

-- whether the task of a number may pause
abbrev pub pauses_at : SpecTree → Member → Bool
pauses_at spec m = option_map_or (λ t. may_pause spec t.0 t.1) (task_at spec m) false

-- whether the body of the task of a number is sure to cross
abbrev pub crosses_at : SpecTree → Member → Bool
crosses_at spec m = option_map_or (λ t. body_crosses (call_depth spec) spec t.0 t.1.body) (task_at spec m) false

-- these tasks pass a test, and are all of an order that do
pub record ArePassing (test : Member → Bool) (order tasks : List Member) : Type 0 where
  pub sound : (m : Member) → is_in tasks m ≡ true → test m ≡ true
  pub complete : (k : ℕ) (m : Member) → slice_get order k ≡ Some m → is_in tasks m ≡ test m
