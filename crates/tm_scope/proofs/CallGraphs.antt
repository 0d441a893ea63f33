-- The graph of the calls of all tasks of a text, and a walk over it.
use Rattle.std.proofs.Common.{◌≡◌, ℕ, ◌<◌, ◌≤◌, Bool, true, false, Option, None, Some, List, [], length, map, position, slice_get, refl, sym, ap, ◌∙◌, subst, arith}
use Rattle.std.proofs.lemmas.List.{length-map}
use Rattle.std.specs.List.{filter_map}
use Rattle.std.specs.Option.{option_and_then, option_map, option_map_or}
use Rattle.std.proofs.lemmas.Option.{none-some, same_Some, slice_get_within}
use Rattle.tm_syntax.specs.declared.member.Member.{Member}
use Rattle.tm_syntax.specs.declared.tree.Ident.{Ident}
use Rattle.tm_syntax.specs.declared.tree.Spec.{Spec}
use Rattle.tm_syntax.specs.Tree.{SpecTree, TaskTree, TemplateTree}
use Rattle.tm_syntax.specs.Tree.View.{spec_tree}
use Rattle.tm_syntax.specs.Scopes.Calls.{Calls, Reaches, at_once, through, body_calls, number_along, numbered_task, task_number}
use Rattle.tm_syntax.specs.Scopes.Names.{is_spelled, last_name}
use Rattle.tm_scope.specs.declared.graph.Walked.{Walked}
use Rattle.tm_scope.specs.Graph.{HasEdge, HasEdgesWithin, LeadsTo, along, onward, IsWalk}
use Rattle.tm_scope.specs.Inner.CallGraphs.{AreAllTasks, callees_at}
use Rattle.tm_scope.specs.Marks.{marked_number, same_task}
use Rattle.tm_scope.proofs.Entries.{at-contained, at-map, at-there, contained-at, map-at}
use Rattle.tm_scope.proofs.Filtered.{any-position, filter-at, filtered-at, position-at}
use Rattle.tm_scope.proofs.TaskSets.{same_task-is}
use Rattle.tm_scope.proofs.WalkSteps.{one_place}

-- what a path leads to is there
pub callee-there : (spec : SpecTree) (from : ℕ) (path : List Ident) (m : Member) →
    task_number spec from path ≡ Some m → (task : TaskTree) × (numbered_task spec m ≡ Some task)
callee-there spec from path m leads = along_ (number_along spec from path) leads
  where
    in_template : (n : ℕ) (t : TemplateTree) → slice_get spec.templates n ≡ Some t → (o : Option ℕ) →
        position (λ (k : TaskTree). is_spelled (last_name path) k.name) t.tasks ≡ o →
        option_map (λ k. record { template = n; index = k }) o ≡ Some m →
        (task : TaskTree) × (numbered_task spec m ≡ Some task)
    in_template n t at None is e = absurd (none-some m e)
    in_template n t at (Some k) is e =
        let found = position-at (λ (k : TaskTree). is_spelled (last_name path) k.name) t.tasks k is in (
          found.0,
          ap (numbered_task spec) (sym (same_Some (record { template = n; index = k }) m e))
              ∙ ap (option_and_then (λ (t : TemplateTree). slice_get t.tasks k)) at ∙ found.1,
        )

    of_template : (n : ℕ) (o : Option TemplateTree) → slice_get spec.templates n ≡ o →
        option_and_then (λ (t : TemplateTree). option_map (λ k. record { template = n; index = k })
        (position (λ (k : TaskTree). is_spelled (last_name path) k.name) t.tasks)) o ≡ Some m →
        (task : TaskTree) × (numbered_task spec m ≡ Some task)
    of_template n None at e = absurd (none-some m e)
    of_template n (Some t) at e =
        in_template n t at (position (λ (k : TaskTree). is_spelled (last_name path) k.name) t.tasks) refl e

    along_ : (o : Option ℕ) →
        option_and_then (λ n. option_and_then (λ (t : TemplateTree). option_map
        (λ k. record { template = n; index = k })
        (position (λ (k : TaskTree). is_spelled (last_name path) k.name) t.tasks)) (slice_get spec.templates n)) o
        ≡ Some m → (task : TaskTree) × (numbered_task spec m ≡ Some task)
    along_ None e = absurd (none-some m e)
    along_ (Some n) e = of_template n (slice_get spec.templates n) refl e

module _ (s : Spec) (tasks : List Member) (all : AreAllTasks (spec_tree s) tasks) where
  abbrev pub graph : List (List ℕ)
  graph = map (callees_at s tasks) tasks

  abbrev number : ℕ → List Ident → Option ℕ
  number from path = marked_number (record { spec = s; from = from; tasks = tasks }) path

  -- the number of a task
  found-at : (m : Member) (k : ℕ) → position (same_task m) tasks ≡ Some k → slice_get tasks k ≡ Some m
  found-at m k is =
      let at = position-at (same_task m) tasks k is in
      at.1 ∙ ap (λ x. Some x) (sym (same_task-is m at.0 at.2))

  pub number_of : (m : Member) (task : TaskTree) → numbered_task (spec_tree s) m ≡ Some task →
      (a : ℕ) × (position (same_task m) tasks ≡ Some a) × (slice_get tasks a ≡ Some m)
  number_of m task is =
      let at = any-position (same_task m) tasks (all.complete m task is) in
      (at.0, at.1, found-at m at.0 at.1)

  row_at : (a : ℕ) (m : Member) → slice_get tasks a ≡ Some m → slice_get graph a ≡ Some (callees_at s tasks m)
  row_at a m at = at-map (callees_at s tasks) tasks a m at

  -- an edge is a call
  edge-calls : (a b : ℕ) (m : Member) → slice_get tasks a ≡ Some m → HasEdge graph a b →
      (c : Member) × (slice_get tasks b ≡ Some c) × Calls (spec_tree s) m c
  edge-calls a b m at edge =
      let row : edge.edges ≡ callees_at s tasks m =
      one_place (slice_get graph a) edge.edges (callees_at s tasks m) edge.of_node (row_at a m at) in
      let k = contained-at edge.edges b edge.leads in
      by (numbered_task (spec_tree s) m) refl k.0 (ap (λ xs. slice_get xs k.0) (sym row) ∙ k.1)
    where
      led : (task : TaskTree) → numbered_task (spec_tree s) m ≡ Some task → (j : ℕ) (path : List Ident) →
          slice_get (body_calls task.body) j ≡ Some path → (o : Option Member) →
          task_number (spec_tree s) m.template path ≡ o →
          option_and_then (λ c. position (same_task c) tasks) o ≡ Some b →
          (c : Member) × (slice_get tasks b ≡ Some c) × Calls (spec_tree s) m c
      led task is j path among None leads e = absurd (none-some b e)
      led task is j path among (Some c) leads e = (
        c,
        found-at c b e,
        record {
          task = task;
          path = path;
          is = is;
          calls = at-contained (body_calls task.body) j path among;
          leads = leads;
        },
      )

      by : (o : Option TaskTree) → numbered_task (spec_tree s) m ≡ o → (k : ℕ) →
          slice_get (option_map_or (λ (task : TaskTree). filter_map (number m.template) (body_calls task.body)) o [])
          k ≡ Some b →
          (c : Member) × (slice_get tasks b ≡ Some c) × Calls (spec_tree s) m c
      by None is k e = absurd (none-some b e)
      by (Some task) is k e =
          let from = filtered-at (number m.template) (body_calls task.body) k b e in
          led task is from.0 from.1 from.2 (task_number (spec_tree s) m.template from.1) refl from.3

  -- a call is an edge
  call-edge : (a b : ℕ) (m c : Member) → slice_get tasks a ≡ Some m → Calls (spec_tree s) m c →
      position (same_task c) tasks ≡ Some b → HasEdge graph a b
  call-edge a b m c at call is =
      let among = contained-at (body_calls call.task.body) call.path call.calls in
      let k = filter-at (number m.template) (body_calls call.task.body) among.0 call.path b among.1
      (ap (option_and_then (λ c. position (same_task c) tasks)) call.leads ∙ is) in
      record {
        edges = callees_at s tasks m;
        of_node = row_at a m at;
        leads = at-contained (callees_at s tasks m) k.0 b
            (ap (λ o. slice_get (option_map_or
            (λ (task : TaskTree). filter_map (number m.template) (body_calls task.body)) o []) k.0) call.is ∙ k.1);
      }

  -- the number of what a task calls
  callee_number : (m c : Member) → Calls (spec_tree s) m c →
      (b : ℕ) × (position (same_task c) tasks ≡ Some b) × (slice_get tasks b ≡ Some c)
  callee_number m c call =
      let there = callee-there (spec_tree s) m.template call.path c call.leads in
      number_of c there.0 there.1

  pub edges_within : HasEdgesWithin graph
  edges_within a b edge =
      let from = map-at (callees_at s tasks) tasks a edge.edges edge.of_node in
      let to = edge-calls a b from.0 from.1 edge in
      let inside : b < length tasks = slice_get_within tasks b to.0 to.1 in
      let same : length graph ≡ length tasks = length-map tasks (callees_at s tasks) in
      omega arith

  -- what a node leads to, its task reaches
  leads-reaches : {a b : ℕ} → LeadsTo graph a b → (m : Member) → slice_get tasks a ≡ Some m →
      (c : Member) × (slice_get tasks b ≡ Some c) × Reaches (spec_tree s) m c
  leads-reaches {a} {b} (along edge) m at =
      let to = edge-calls a b m at edge in (to.0, to.1, at_once to.2)
  leads-reaches {a} (onward {b = next} edge rest) m at =
      let to = edge-calls a next m at edge in
      let end = leads-reaches rest to.0 to.1 in
      (end.0, end.1, through to.2 end.2)

  -- and what a task reaches, its node leads to
  reaches-leads : {m c : Member} → Reaches (spec_tree s) m c → (a : ℕ) → slice_get tasks a ≡ Some m →
      (b : ℕ) × (position (same_task c) tasks ≡ Some b) × LeadsTo graph a b
  reaches-leads {m} {c} (at_once call) a at =
      let to = callee_number m c call in (to.0, to.1, along (call-edge a to.0 m c at call to.1))
  reaches-leads {m} (through {b = next} call rest) a at =
      let to = callee_number m next call in
      let end = reaches-leads rest to.0 to.2 in
      (end.0, end.1, onward (call-edge a to.0 m next at call to.1) end.2)

  caller : {m c : Member} → Reaches (spec_tree s) m c →
      (task : TaskTree) × (numbered_task (spec_tree s) m ≡ Some task)
  caller (at_once call) = (call.task, call.is)
  caller (through call rest) = (call.task, call.is)

  module _ (order : List Walked) (walk : IsWalk graph order) where
    -- each task stands in the order
    pub task_stands : (m : Member) (task : TaskTree) → numbered_task (spec_tree s) m ≡ Some task →
        (k : ℕ) × (w : Walked) × (slice_get order k ≡ Some w) × (slice_get tasks w.node ≡ Some m)
        × (position (same_task m) tasks ≡ Some w.node)
    task_stands m task is =
        let a = number_of m task is in
        let inside : a.0 < length tasks = slice_get_within tasks a.0 m a.2 in
        let same : length graph ≡ length tasks = length-map tasks (callees_at s tasks) in
        let at = walk.complete a.0 (omega arith) in (
          at.0,
          at.1.walked,
          at.1.at,
          ap (slice_get tasks) at.1.node ∙ a.2,
          a.1 ∙ ap (λ x. Some x) (sym at.1.node),
        )

    -- each node of the order has its task
    pub node_task : (k : ℕ) (w : Walked) → slice_get order k ≡ Some w →
        (m : Member) × (slice_get tasks w.node ≡ Some m)
    node_task k w at =
        let inside : w.node < length graph = walk.within k w.node (record { walked = w; at = at; node = refl }) in
        let same : length graph ≡ length tasks = length-map tasks (callees_at s tasks) in
        at-there tasks w.node (omega arith)

    -- a node that loops is that of a task that reaches itself
    pub loop-reaches : (k : ℕ) (w : Walked) (m : Member) → slice_get order k ≡ Some w → w.loops ≡ true →
        slice_get tasks w.node ≡ Some m → Reaches (spec_tree s) m m
    loop-reaches k w m at loops is =
        let end = leads-reaches (walk.loops k w at loops) m is in
        subst (Reaches (spec_tree s) m) (one_place (slice_get tasks w.node) end.0 m end.1 is) end.2

    pub reaches-loop : (m : Member) → Reaches (spec_tree s) m m →
        (k : ℕ) × (w : Walked) × (slice_get order k ≡ Some w) × (w.loops ≡ true) × (slice_get tasks w.node ≡ Some m)
    reaches-loop m round = by at.1.loops refl
      where
        at : (k : ℕ) × (w : Walked) × (slice_get order k ≡ Some w) × (slice_get tasks w.node ≡ Some m)
            × (position (same_task m) tasks ≡ Some w.node)
        at = let task = caller round in task_stands m task.0 task.1

        by : (loops : Bool) → at.1.loops ≡ loops →
            (k : ℕ) × (w : Walked) × (slice_get order k ≡ Some w) × (w.loops ≡ true)
            × (slice_get tasks w.node ≡ Some m)
        by true is = (at.0, at.1, at.2, is, at.3)
        by false is =
            let end = reaches-leads round at.1.node at.3 in
            let same : end.0 ≡ at.1.node =
            one_place (position (same_task m) tasks) end.0 at.1.node end.1 at.4 in
            absurd (walk.straight at.0 at.1 at.2 is (subst (LeadsTo graph at.1.node) same end.2))

    -- what a task calls that does not loop stands before it
    pub callee_before : (k : ℕ) (w : Walked) (m c : Member) → slice_get order k ≡ Some w → w.loops ≡ false →
        slice_get tasks w.node ≡ Some m → Calls (spec_tree s) m c →
        (j : ℕ) × (v : Walked) × (j < k) × (slice_get order j ≡ Some v) × (slice_get tasks v.node ≡ Some c)
    callee_before k w m c at fails is call =
        let to = callee_number m c call in
        let before = walk.behind k to.0 w at fails (call-edge w.node to.0 m c is call to.1) in (
          before.0,
          before.2.walked,
          before.1,
          before.2.at,
          ap (slice_get tasks) before.2.node ∙ to.2,
        )

    pub order_short : length order ≤ length tasks
    order_short =
        let same : length graph ≡ length tasks = length-map tasks (callees_at s tasks) in
        let short = walk.short in
        omega arith
