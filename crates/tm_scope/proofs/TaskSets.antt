-- Sets of tasks along an order.
use Rattle.std.proofs.Common.{◌≡◌, ℕ, zero, suc, ◌+◌, ◌<◌, ◌≤◌, Bool, true, false, Option, None, Some, List, [], ◌∷◌, ◌++◌, length, nat_eq, slice_get, refl, sym, ap, ◌∙◌, true≢false, arith, eqb, if◌then◌else◌}
use Rattle.std.specs.Prelude.{◌||◌, ◌&&◌, Contains}
use Rattle.std.specs.Option.{option_map_or, option_and_then}
use Rattle.std.proofs.lemmas.List.Folds.{list_any-append}
use Rattle.std.proofs.lemmas.Option.{same_Some, slice_get_within}
use Rattle.std.proofs.lemmas.Bool.{eqb-true, eqb-false}
use Rattle.std.proofs.lemmas.Bool.Decides.{nat_tests}
use Rattle.tm_syntax.specs.declared.tree.Ident.{Ident}
use Rattle.tm_syntax.specs.declared.tree.Spec.{Spec}
use Rattle.tm_syntax.specs.Tree.{TemplateTree, TaskTree}
use Rattle.tm_syntax.specs.Tree.View.{spec_tree}
use Rattle.tm_syntax.specs.Scopes.Pauses.{body_pauses, call_depth, task_reached}
use Rattle.tm_syntax.specs.Scopes.Crossing.{body_crosses}
use Rattle.tm_scope.specs.CallOrder.{IsCallOrder}
use Rattle.tm_syntax.specs.Scopes.Calls.{body_calls, task_number}
use Rattle.tm_scope.specs.Marks.{same_task, is_in, with_task, CallTable, is_marked, pauses_by, crosses_by, pauses_at, crosses_at}
use Rattle.tm_scope.specs.Members.{task_at}
use Rattle.tm_syntax.specs.declared.member.Member.{Member}
use Rattle.tm_scope.proofs.CallOrders.{AgreeOn-all, body_pauses-agree, body_crosses-agree, numbered, reached, settled_pauses, settled_crosses}

-- ---- numbers of tasks

same_numbers : (a b : Member) → a.template ≡ b.template → a.index ≡ b.index → a ≡ b
same_numbers a b t i = λ j. record { template = t j; index = i j }

pub both-true : (a b : Bool) → (a && b) ≡ true → (a ≡ true) × (b ≡ true)
both-true true true e = (refl, refl)
both-true true false e = absurd (true≢false (sym e))
both-true false b e = absurd (true≢false (sym e))

pub same_task-is : (a b : Member) → same_task a b ≡ true → a ≡ b
same_task-is a b e =
    let parts : (nat_eq a.template b.template ≡ true) × (nat_eq a.index b.index ≡ true) =
    both-true (nat_eq a.template b.template) (nat_eq a.index b.index) e in
    same_numbers a b (eqb-true a.template b.template parts.0) (eqb-true a.index b.index parts.1)

nat_eq-refl : (n : ℕ) → nat_eq n n ≡ true
nat_eq-refl n = grind (arith, nat_tests)

pub same_task-refl : (a : Member) → same_task a a ≡ true
same_task-refl a =
    ap (λ b. b && nat_eq a.index a.index) (nat_eq-refl a.template) ∙ nat_eq-refl a.index

-- ---- sets

is_in-pushed : (tasks : List Member) (m other : Member) →
    is_in (tasks ++ m ∷ []) other ≡ (is_in tasks other || same_task other m)
is_in-pushed tasks m other =
    list_any-append (same_task other) tasks (m ∷ []) ∙ ap (λ b. is_in tasks other || b) (last (same_task other m))
  where
    last : (b : Bool) → (b || false) ≡ b
    last true = refl
    last false = refl

or_true : (a : Bool) → (a || true) ≡ true
or_true true = refl
or_true false = refl

or_false : (a : Bool) → (a || false) ≡ a
or_false true = refl
or_false false = refl

joined : (a b t : Bool) → a ≡ t → (b ≡ true → t ≡ true) → (a || b) ≡ t
joined a true t is follows = or_true a ∙ sym (follows refl)
joined a false t is follows = or_false a ∙ is

-- a task is in a set with one more where it was, or is that one
pub is_in-with : (tasks : List Member) (m n : Member) → is_in (with_task tasks m) n ≡ (is_in tasks n || same_task n m)
is_in-with tasks m n = by (is_in tasks m) refl
  where
    there : is_in tasks m ≡ true → same_task n m ≡ true → is_in tasks n ≡ true
    there e same = ap (is_in tasks) (same_task-is n m same) ∙ e

    by : (b : Bool) → is_in tasks m ≡ b →
        is_in (if b then tasks else tasks ++ m ∷ []) n ≡ (is_in tasks n || same_task n m)
    by true e = sym (joined (is_in tasks n) (same_task n m) (is_in tasks n) refl (there e))
    by false e = is_in-pushed tasks m n

-- the tasks so far of an order, those that pass a test
pub record AreMarked (test : Member → Bool) (order : List Member) (i : ℕ) (tasks : List Member) : Type 0 where
  pub sound : (m : Member) → is_in tasks m ≡ true → test m ≡ true
  pub complete : (k : ℕ) (m : Member) → k < i → slice_get order k ≡ Some m → is_in tasks m ≡ test m

pub nothing_marked : (test : Member → Bool) (order : List Member) → AreMarked test order 0 []
nothing_marked test order = record {
  sound = λ m e. absurd (true≢false (sym e));
  complete = λ k m below at. absurd (omega arith);
}

module _ (test : Member → Bool) (order : List Member) (i : ℕ) (tasks : List Member) (m : Member)
    (so : AreMarked test order i tasks) (here : slice_get order i ≡ Some m) where
  is_here : (k : ℕ) (n : Member) → slice_get order k ≡ Some n → k ≡ i → n ≡ m
  is_here k n at same = same_Some n m (sym at ∙ ap (slice_get order) same ∙ here)

  -- one that does not pass stays out
  pub unmarked_more : test m ≡ false → AreMarked test order (i + 1) tasks
  unmarked_more fails = record {
    sound = so.sound;
    complete = λ k n below at. by k n below at (eqb k i) refl;
  }
    where
      out : (n : Member) → test n ≡ false → (b : Bool) → is_in tasks n ≡ b → b ≡ test n
      out n failed true e = absurd (true≢false (sym (so.sound n e) ∙ failed))
      out n failed false e = sym failed

      by : (k : ℕ) (n : Member) → k < i + 1 → slice_get order k ≡ Some n → (b : Bool) → eqb k i ≡ b →
          is_in tasks n ≡ test n
      by k n below at true e =
          out n (ap test (is_here k n at (eqb-true k i e)) ∙ fails) (is_in tasks n) refl
      by k n below at false e =
          let other : k ≡ i → ⊥ = eqb-false k i e in
          let before : k < i = omega arith in
          so.complete k n before at

  -- one that passes goes in
  pub marked_more : test m ≡ true → AreMarked test order (i + 1) (with_task tasks m)
  marked_more passes = record {
    sound = λ n e. in_sound n (is_in tasks n) refl (sym (is_in-with tasks m n) ∙ e);
    complete = λ k n below at. is_in-with tasks m n ∙ by k n below at (eqb k i) refl;
  }
    where
      same_passes : (n : Member) → same_task n m ≡ true → test n ≡ true
      same_passes n same = ap test (same_task-is n m same) ∙ passes

      in_sound : (n : Member) (b : Bool) → is_in tasks n ≡ b → (is_in tasks n || same_task n m) ≡ true → test n ≡ true
      in_sound n true e both = so.sound n e
      in_sound n false e both = same_passes n (sym (ap (λ b. b || same_task n m) e) ∙ both)

      by : (k : ℕ) (n : Member) → k < i + 1 → slice_get order k ≡ Some n → (b : Bool) → eqb k i ≡ b →
          (is_in tasks n || same_task n m) ≡ test n
      by k n below at true e =
          let n_is : n ≡ m = is_here k n at (eqb-true k i e) in
          ap (λ b. is_in tasks n || b) (ap (same_task n) (sym n_is) ∙ same_task-refl n)
          ∙ or_true (is_in tasks n) ∙ sym (ap test n_is ∙ passes)
      by k n below at false e =
          let other : k ≡ i → ⊥ = eqb-false k i e in
          let before : k < i = omega arith in
          joined (is_in tasks n) (same_task n m) (test n) (so.complete k n before at) (same_passes n)

-- ---- a body at its place in the order

module _ (s : Spec) (order : List Member) (ordered : IsCallOrder (spec_tree s) order)
    (short : length order ≤ call_depth (spec_tree s)) where
  module _ (i : ℕ) (tasks : List Member) (so : AreMarked (pauses_at (spec_tree s)) order i tasks) (m : Member)
      (here : slice_get order i ≡ Some m) where
    abbrev pauses_table : CallTable
    pauses_table = record { spec = s; from = m.template; tasks = tasks }

    abbrev pauses_test : ℕ → TemplateTree × TaskTree → Bool
    pauses_test d k = body_pauses d (spec_tree s) k.0 k.1.body

    pauses_callee : (t : TemplateTree × TaskTree) → task_at (spec_tree s) m ≡ Some t → (n : ℕ) →
        i < suc n → i < call_depth (spec_tree s) → (path : List Ident) → Contains (body_calls t.1.body) path →
        (o : Option Member) → task_number (spec_tree s) m.template path ≡ o →
        is_marked pauses_table path ≡ option_map_or (pauses_test n) (task_reached (spec_tree s) t.0 path) false
    pauses_callee t is n deep within path among None leads =
        ap (λ o. option_map_or (is_in tasks) o false) leads
        ∙ sym (ap (λ o. option_map_or (pauses_test n) o false)
        (reached (spec_tree s) m t path is ∙ ap (option_and_then (task_at (spec_tree s))) leads))
    pauses_callee t is n deep within path among (Some c) leads =
        let before : (j : ℕ) × (j < i) × (slice_get order j ≡ Some c) =
        ordered.behind i m c here (record {
          task = t.1;
          path = path;
          is = numbered (spec_tree s) m t is;
          calls = among;
          leads = leads;
        }) in
        ap (λ o. option_map_or (is_in tasks) o false) leads
        ∙ so.complete before.0 c before.1 before.2
        ∙ settles before.0 before.1 before.2 (task_at (spec_tree s) c) refl
        ∙ sym (ap (λ o. option_map_or (pauses_test n) o false)
        (reached (spec_tree s) m t path is ∙ ap (option_and_then (task_at (spec_tree s))) leads))
      where
        settles : (j : ℕ) → j < i → slice_get order j ≡ Some c → (o : Option (TemplateTree × TaskTree)) →
            task_at (spec_tree s) c ≡ o →
            option_map_or (pauses_test (call_depth (spec_tree s))) o false ≡ option_map_or (pauses_test n) o false
        settles j before at None there = refl
        settles j before at (Some u) there =
            settled_pauses (spec_tree s) order ordered (suc j) j (call_depth (spec_tree s)) n c u (omega arith)
            (omega arith)
            (omega arith) at there

    -- by the tasks before it, a task does as the definition says
    pub pauses_so : option_map_or (λ t. pauses_by (is_marked pauses_table) t.1.body) (task_at (spec_tree s) m) false
        ≡ pauses_at (spec_tree s) m
    pauses_so = by (task_at (spec_tree s) m) refl (call_depth (spec_tree s)) refl
      where
        within : i < length order
        within = slice_get_within order i m here

        by : (o : Option (TemplateTree × TaskTree)) → task_at (spec_tree s) m ≡ o → (d : ℕ) →
            call_depth (spec_tree s) ≡ d →
            option_map_or (λ t. pauses_by (is_marked pauses_table) t.1.body) o false
            ≡ option_map_or (pauses_test (call_depth (spec_tree s))) o false
        by None is d deep = refl
        by (Some t) is zero deep = let inside : i < length order = within in absurd (omega arith)
        by (Some t) is (suc n) deep =
            let inside : i < length order = within in
            body_pauses-agree (is_marked pauses_table)
            (λ path. option_map_or (pauses_test n) (task_reached (spec_tree s) t.0 path) false) t.1.body
            (AgreeOn-all (is_marked pauses_table)
            (λ path. option_map_or (pauses_test n) (task_reached (spec_tree s) t.0 path) false) (body_calls t.1.body)
            (λ path among. pauses_callee t is n (omega arith) (omega arith) path among
            (task_number (spec_tree s) m.template path) refl))
            ∙ sym (ap (λ d. pauses_test d t) deep)

  module _ (i : ℕ) (tasks : List Member) (so : AreMarked (crosses_at (spec_tree s)) order i tasks) (m : Member)
      (here : slice_get order i ≡ Some m) where
    abbrev crosses_table : CallTable
    crosses_table = record { spec = s; from = m.template; tasks = tasks }

    abbrev crosses_test : ℕ → TemplateTree × TaskTree → Bool
    crosses_test d k = body_crosses d (spec_tree s) k.0 k.1.body

    crosses_callee : (t : TemplateTree × TaskTree) → task_at (spec_tree s) m ≡ Some t → (n : ℕ) →
        i < suc n → i < call_depth (spec_tree s) → (path : List Ident) → Contains (body_calls t.1.body) path →
        (o : Option Member) → task_number (spec_tree s) m.template path ≡ o →
        is_marked crosses_table path ≡ option_map_or (crosses_test n) (task_reached (spec_tree s) t.0 path) false
    crosses_callee t is n deep within path among None leads =
        ap (λ o. option_map_or (is_in tasks) o false) leads
        ∙ sym (ap (λ o. option_map_or (crosses_test n) o false)
        (reached (spec_tree s) m t path is ∙ ap (option_and_then (task_at (spec_tree s))) leads))
    crosses_callee t is n deep within path among (Some c) leads =
        let before : (j : ℕ) × (j < i) × (slice_get order j ≡ Some c) =
        ordered.behind i m c here (record {
          task = t.1;
          path = path;
          is = numbered (spec_tree s) m t is;
          calls = among;
          leads = leads;
        }) in
        ap (λ o. option_map_or (is_in tasks) o false) leads
        ∙ so.complete before.0 c before.1 before.2
        ∙ settles before.0 before.1 before.2 (task_at (spec_tree s) c) refl
        ∙ sym (ap (λ o. option_map_or (crosses_test n) o false)
        (reached (spec_tree s) m t path is ∙ ap (option_and_then (task_at (spec_tree s))) leads))
      where
        settles : (j : ℕ) → j < i → slice_get order j ≡ Some c → (o : Option (TemplateTree × TaskTree)) →
            task_at (spec_tree s) c ≡ o →
            option_map_or (crosses_test (call_depth (spec_tree s))) o false ≡ option_map_or (crosses_test n) o false
        settles j before at None there = refl
        settles j before at (Some u) there =
            settled_crosses (spec_tree s) order ordered (suc j) j (call_depth (spec_tree s)) n c u (omega arith)
            (omega arith)
            (omega arith) at there

    -- by the tasks before it, a task does as the definition says
    pub crosses_so : option_map_or (λ t. crosses_by (is_marked crosses_table) t.1.body) (task_at (spec_tree s) m) false
        ≡ crosses_at (spec_tree s) m
    crosses_so = by (task_at (spec_tree s) m) refl (call_depth (spec_tree s)) refl
      where
        within : i < length order
        within = slice_get_within order i m here

        by : (o : Option (TemplateTree × TaskTree)) → task_at (spec_tree s) m ≡ o → (d : ℕ) →
            call_depth (spec_tree s) ≡ d →
            option_map_or (λ t. crosses_by (is_marked crosses_table) t.1.body) o false
            ≡ option_map_or (crosses_test (call_depth (spec_tree s))) o false
        by None is d deep = refl
        by (Some t) is zero deep = let inside : i < length order = within in absurd (omega arith)
        by (Some t) is (suc n) deep =
            let inside : i < length order = within in
            body_crosses-agree (is_marked crosses_table)
            (λ path. option_map_or (crosses_test n) (task_reached (spec_tree s) t.0 path) false) t.1.body
            (AgreeOn-all (is_marked crosses_table)
            (λ path. option_map_or (crosses_test n) (task_reached (spec_tree s) t.0 path) false) (body_calls t.1.body)
            (λ path among. crosses_callee t is n (omega arith) (omega arith) path among
            (task_number (spec_tree s) m.template path) refl))
            ∙ sym (ap (λ d. crosses_test d t) deep)
