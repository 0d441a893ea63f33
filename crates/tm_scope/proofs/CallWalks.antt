-- The tasks of a walk along calls, read off in its order.
use Rattle.std.proofs.Common.{◌≡◌, ◌⊎◌, inl, inr, ℕ, ◌+◌, ◌<◌, ◌≤◌, Bool, true, false, true≢false, Some, List, [], ◌∷◌, ◌++◌, length, length-append, slice_get, refl, sym, ap, ◌∙◌, arith}
use Rattle.std.specs.Prelude.{◌||◌, ◌↔◌}
use Rattle.std.proofs.lemmas.Option.{slice_get_within}
use Rattle.tm_syntax.specs.declared.member.Member.{Member}
use Rattle.tm_syntax.specs.declared.tree.Spec.{Spec}
use Rattle.tm_syntax.specs.Tree.View.{spec_tree}
use Rattle.tm_syntax.specs.Scopes.Calls.{Reaches}
use Rattle.tm_syntax.specs.Scopes.Pauses.{call_depth}
use Rattle.tm_scope.specs.declared.graph.Walked.{Walked}
use Rattle.tm_scope.specs.CallOrder.{CoversTasks, IsCallOrder}
use Rattle.tm_scope.specs.Inner.CallGraphs.{AreLooping, AreOrdered, HaveTasks, IsCallWalk}
use Rattle.tm_scope.specs.Marks.{is_in, same_task, with_task}
use Rattle.tm_scope.proofs.CallGraphs.{callee_before, loop-reaches, node_task, order_short, reaches-loop, task_stands}
use Rattle.tm_scope.proofs.Entries.{at-end, at-left, at-there, same_or_not}
use Rattle.tm_scope.proofs.TaskSets.{is_in-with, same_task-is, same_task-refl}
use Rattle.tm_scope.proofs.WalkSteps.{one_place}

pub nothing_ordered : (tasks : List Member) (order : List Walked) → AreOrdered tasks order 0 []
nothing_ordered tasks order = record {
  long = refl;
  task = λ k w m below at is. absurd (omega (arith, below));
  straight = λ k w below at. absurd (omega (arith, below));
}

pub ordered_more : (tasks : List Member) (order : List Walked) (i : ℕ) (found : List Member) (w : Walked)
    (m : Member) → AreOrdered tasks order i found → slice_get order i ≡ Some w → w.loops ≡ false →
    slice_get tasks w.node ≡ Some m → AreOrdered tasks order (i + 1) (found ++ m ∷ [])
ordered_more tasks order i found w m so here fails is = record {
  long = let was : length found ≡ i = so.long in length-append found (m ∷ []) ∙ (omega arith);
  task = λ k v n below at its. by_task k v n below at its (same_or_not k i);
  straight = λ k v below at. by_loops k v below at (same_or_not k i);
}
  where
    by_task : (k : ℕ) (v : Walked) (n : Member) → k < i + 1 → slice_get order k ≡ Some v →
        slice_get tasks v.node ≡ Some n → (k ≡ i) ⊎ (k ≡ i → ⊥) → slice_get (found ++ m ∷ []) k ≡ Some n
    by_task k v n below at its (inl same) =
        let one : w ≡ v = one_place (slice_get order i) w v here (ap (slice_get order) (sym same) ∙ at) in
        let task : m ≡ n =
        one_place (slice_get tasks w.node) m n is (ap (λ (x : Walked). slice_get tasks x.node) one ∙ its) in
        ap (slice_get (found ++ m ∷ [])) (same ∙ sym so.long) ∙ at-end found m ∙ ap (λ x. Some x) task
    by_task k v n below at its (inr other) =
        at-left found (m ∷ []) k n (so.task k v n (omega arith) at its)

    by_loops : (k : ℕ) (v : Walked) → k < i + 1 → slice_get order k ≡ Some v → (k ≡ i) ⊎ (k ≡ i → ⊥) →
        v.loops ≡ false
    by_loops k v below at (inl same) =
        ap (λ (x : Walked). x.loops)
        (sym (one_place (slice_get order i) w v here (ap (slice_get order) (sym same) ∙ at))) ∙ fails
    by_loops k v below at (inr other) = so.straight k v (omega arith) at

module _ (s : Spec) (tasks : List Member) (order : List Walked) (walk : IsCallWalk s tasks order) where
  -- each node of the order has a task
  pub has_tasks : HaveTasks tasks order
  has_tasks = λ k w at. node_task s tasks walk.all order walk.walk k w at

  -- one that loops shows a task that reaches itself
  pub round : (k : ℕ) (w : Walked) → slice_get order k ≡ Some w → w.loops ≡ true →
      (m : Member) × Reaches (spec_tree s) m m
  round k w at loops =
      let there = node_task s tasks walk.all order walk.walk k w at in
      (there.0, loop-reaches s tasks walk.all order walk.walk k w there.0 at loops there.1)

  module _ (found : List Member) (so : AreOrdered tasks order (length order) found) where
    -- the node of a task of the order
    node_of : (k : ℕ) (m : Member) → slice_get found k ≡ Some m →
        (w : Walked) × (slice_get order k ≡ Some w) × (slice_get tasks w.node ≡ Some m)
    node_of k m at =
        let inside : k < length found = slice_get_within found k m at in
        let long : length found ≡ length order = so.long in
        let w = at-there order k (omega arith) in
        let there = node_task s tasks walk.all order walk.walk k w.0 w.1 in
        let same : there.0 ≡ m =
        one_place (slice_get found k) there.0 m (so.task k w.0 there.0 (omega arith) w.1 there.1) at in
        (w.0, w.1, there.1 ∙ ap (λ x. Some x) same)

    pub is_order : IsCallOrder (spec_tree s) found
    is_order = record {
      behind = λ k m callee at call.
          let w = node_of k m at in
          let inside : k < length order = slice_get_within order k w.0 w.1 in
          let before = callee_before s tasks walk.all order walk.walk k w.0 m callee w.1 (so.straight k w.0 inside w.1)
          w.2 call in
          let further : before.0 < k = before.2 in
          (before.0, further, so.task before.0 before.1 callee (omega arith) before.3 before.4);
    }

    pub covers : CoversTasks (spec_tree s) found
    covers m task is =
        let at = task_stands s tasks walk.all order walk.walk m task is in
        (at.0, so.task at.0 at.1 m (slice_get_within order at.0 at.1 at.2) at.2 at.3)

    pub is_short : length found ≤ call_depth (spec_tree s)
    is_short =
        let long : length found ≡ length order = so.long in
        let first : length order ≤ length tasks = order_short s tasks walk.all order walk.walk in
        let few = walk.all.few in
        omega arith

    pub no_round : (m : Member) → Reaches (spec_tree s) m m → ⊥
    no_round m reaches =
        let at = reaches-loop s tasks walk.all order walk.walk m reaches in
        true≢false (sym at.3 ∙ so.straight at.0 at.1 (slice_get_within order at.0 at.1 at.2) at.2)

pub nothing_loops : (tasks : List Member) (order : List Walked) → AreLooping tasks order 0 []
nothing_loops tasks order = record {
  sound = λ m e. absurd (true≢false (sym e));
  complete = λ k w m below at loops is. absurd (omega (arith, below));
}

module _ (tasks : List Member) (order : List Walked) (i : ℕ) (looping : List Member) (w : Walked)
    (so : AreLooping tasks order i looping) (here : slice_get order i ≡ Some w) where
  node_here : (k : ℕ) (v : Walked) → slice_get order k ≡ Some v → k ≡ i → w ≡ v
  node_here k v at same = one_place (slice_get order i) w v here (ap (slice_get order) (sym same) ∙ at)

  pub straight_more : w.loops ≡ false → AreLooping tasks order (i + 1) looping
  straight_more fails = record {
    sound = so.sound;
    complete = λ k v m below at loops is. by k v m below at loops is (same_or_not k i);
  }
    where
      by : (k : ℕ) (v : Walked) (m : Member) → k < i + 1 → slice_get order k ≡ Some v → v.loops ≡ true →
          slice_get tasks v.node ≡ Some m → (k ≡ i) ⊎ (k ≡ i → ⊥) → is_in looping m ≡ true
      by k v m below at loops is (inl same) =
          absurd (true≢false (sym loops ∙ ap (λ (x : Walked). x.loops) (sym (node_here k v at same)) ∙ fails))
      by k v m below at loops is (inr other) = so.complete k v m (omega arith) at loops is

  pub looping_more : (m : Member) → w.loops ≡ true → slice_get tasks w.node ≡ Some m →
      AreLooping tasks order (i + 1) (with_task looping m)
  looping_more m loops is = record {
    sound = λ n e. in_sound n (is_in looping n) refl (sym (is_in-with looping m n) ∙ e);
    complete = λ k v n below at holds its. is_in-with looping m n ∙ by k v n below at holds its (same_or_not k i);
  }
    where
      in_sound : (n : Member) (b : Bool) → is_in looping n ≡ b → (is_in looping n || same_task n m) ≡ true →
          (k : ℕ) × (w : Walked) × (slice_get order k ≡ Some w) × (w.loops ≡ true) × (slice_get tasks w.node ≡ Some n)
      in_sound n true e both = so.sound n e
      in_sound n false e both =
          let same : n ≡ m = same_task-is n m (sym (ap (λ b. b || same_task n m) e) ∙ both) in
          (i, w, here, loops, is ∙ ap (λ x. Some x) (sym same))

      or_true : (a : Bool) → (a || true) ≡ true
      or_true true = refl
      or_true false = refl

      by : (k : ℕ) (v : Walked) (n : Member) → k < i + 1 → slice_get order k ≡ Some v → v.loops ≡ true →
          slice_get tasks v.node ≡ Some n → (k ≡ i) ⊎ (k ≡ i → ⊥) → (is_in looping n || same_task n m) ≡ true
      by k v n below at holds its (inl same) =
          let task : m ≡ n =
          one_place (slice_get tasks w.node) m n is
          (ap (λ (x : Walked). slice_get tasks x.node) (node_here k v at same) ∙ its) in
          ap (λ x. is_in looping n || same_task n x) task
          ∙ ap (λ b. is_in looping n || b) (same_task-refl n) ∙ or_true (is_in looping n)
      by k v n below at holds its (inr other) =
          ap (λ b. b || same_task n m) (so.complete k v n (omega arith) at holds its)

-- in the end, they are those that reach themselves
pub looping_tasks-are : (s : Spec) (tasks : List Member) (order : List Walked) (looping : List Member) →
    IsCallWalk s tasks order → AreLooping tasks order (length order) looping → (m : Member) →
    (is_in looping m ≡ true) ↔ Reaches (spec_tree s) m m
looping_tasks-are s tasks order looping walk so m = (
  λ e. let at = so.sound m e in loop-reaches s tasks walk.all order walk.walk at.0 at.1 m at.2 at.3 at.4,
  λ reaches.
      let at = reaches-loop s tasks walk.all order walk.walk m reaches in
      so.complete at.0 at.1 m (slice_get_within order at.0 at.1 at.2) at.2 at.3 at.4,
)
