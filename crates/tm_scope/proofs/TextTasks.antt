-- All tasks of a text, found template by template.
use Rattle.std.proofs.Common.{◌≡◌, ◌⊎◌, inl, inr, ℕ, ◌+◌, ◌<◌, ◌≤◌, Bool, true, false, true≢false, Option, None, Some, List, [], get_or, length, nat_eq, nat_lt, slice_get, sum_by, take, take_all, refl, sym, ap, ◌∙◌, subst, arith, eq-eqb, lt-ltb, ltb-true}
use Rattle.std.proofs.lemmas.Bool.{eqb-true}
use Rattle.std.proofs.lemmas.List.{length-map}
use Rattle.std.specs.Prelude.{◌||◌, ◌&&◌}
use Rattle.std.specs.Option.{option_and_then}
use Rattle.std.proofs.lemmas.List.Sums.{sum_by_more}
use Rattle.std.proofs.lemmas.Option.{get_or_from_slice_get, none-some, slice_get_within}
use Rattle.tm_syntax.specs.declared.member.Member.{Member}
use Rattle.tm_syntax.specs.declared.tree.Spec.{Spec}
use Rattle.tm_syntax.specs.declared.tree.Template.{Template}
use Rattle.tm_syntax.specs.Tree.{TaskTree, TemplateTree}
use Rattle.tm_syntax.specs.Tree.View.{spec_tree, task_tree, template_tree}
use Rattle.tm_syntax.specs.Scopes.Calls.{numbered_task}
use Rattle.tm_scope.specs.Inner.CallGraphs.{AreAllTasks}
use Rattle.tm_scope.specs.Marks.{is_in}
use Rattle.tm_scope.proofs.Entries.{at-there, same_or_not}
use Rattle.tm_scope.proofs.PathSteps.{template_read}
use Rattle.tm_scope.proofs.TaskSets.{both-true}

-- these are the tasks of the first templates of a text
pub record AreTasksBelow (s : Spec) (n : ℕ) (tasks : List Member) : Type 0 where
  pub sound : (m : Member) → is_in tasks m ≡ true → (task : TaskTree) × (numbered_task (spec_tree s) m ≡ Some task)
  pub complete : (m : Member) (task : TaskTree) → m.template < n → numbered_task (spec_tree s) m ≡ Some task →
      is_in tasks m ≡ true
  pub few : length tasks ≤ sum_by (λ (t : TemplateTree). length t.tasks) (take n (spec_tree s).templates)

pub no_tasks : (s : Spec) → AreTasksBelow s 0 []
no_tasks s = record {
  sound = λ m e. absurd (true≢false (sym e));
  complete = λ m task below is. absurd (omega (arith, below));
  few = omega arith;
}

module _ (s : Spec) (n : ℕ) (t : Template) (at : slice_get s.templates.items n ≡ Some t) (old new : List Member)
    (so : AreTasksBelow s n old)
    (found : (m : Member) →
    is_in new m ≡ (is_in old m || (nat_eq m.template n && nat_lt m.index (length t.tasks.items))))
    (grown : length new ≤ length old + length t.tasks.items) where
  here : slice_get (spec_tree s).templates n ≡ Some (template_tree t)
  here = template_read s n t at

  as_long : length (template_tree t).tasks ≡ length t.tasks.items
  as_long = length-map t.tasks.items task_tree

  in_template : (m : Member) → m.template ≡ n →
      numbered_task (spec_tree s) m ≡ slice_get (template_tree t).tasks m.index
  in_template m same =
      ap (option_and_then (λ (t : TemplateTree). slice_get t.tasks m.index))
      (ap (slice_get (spec_tree s).templates) same ∙ here)

  sound' : (m : Member) (b : Bool) → is_in old m ≡ b →
      (b || (nat_eq m.template n && nat_lt m.index (length t.tasks.items))) ≡ true →
      (task : TaskTree) × (numbered_task (spec_tree s) m ≡ Some task)
  sound' m true is e = so.sound m is
  sound' m false is e =
      let both = both-true (nat_eq m.template n) (nat_lt m.index (length t.tasks.items)) e in
      let below : m.index < length t.tasks.items = ltb-true m.index (length t.tasks.items) both.1 in
      let long : length (template_tree t).tasks ≡ length t.tasks.items = as_long in
      let task = at-there (template_tree t).tasks m.index (omega arith) in
      (task.0, in_template m (eqb-true m.template n both.0) ∙ task.1)

  or_true : (a : Bool) → (a || true) ≡ true
  or_true true = refl
  or_true false = refl

  complete' : (m : Member) (task : TaskTree) → m.template < n + 1 → numbered_task (spec_tree s) m ≡ Some task →
      (m.template ≡ n) ⊎ (m.template ≡ n → ⊥) →
      (is_in old m || (nat_eq m.template n && nat_lt m.index (length t.tasks.items))) ≡ true
  complete' m task below is (inl same) =
      let inside : m.index < length (template_tree t).tasks =
      slice_get_within (template_tree t).tasks m.index task (sym (in_template m same) ∙ is) in
      let long : length (template_tree t).tasks ≡ length t.tasks.items = as_long in
      let short : m.index < length t.tasks.items = omega arith in
      (λ i. is_in old m || (eq-eqb m.template n same i && lt-ltb m.index (length t.tasks.items) short i))
      ∙ or_true (is_in old m)
  complete' m task below is (inr other) =
      ap (λ b. b || (nat_eq m.template n && nat_lt m.index (length t.tasks.items)))
      (so.complete m task (omega arith) is)

  pub tasks_more : AreTasksBelow s (n + 1) new
  tasks_more = record {
    sound = λ m e. sound' m (is_in old m) refl (sym (found m) ∙ e);
    complete = λ m task below is. found m ∙ complete' m task below is (same_or_not m.template n);
    few =
        let within : n < length (spec_tree s).templates =
        slice_get_within (spec_tree s).templates n (template_tree t) here in
        let more = sum_by_more (λ (t : TemplateTree). length t.tasks) (spec_tree s).templates n (template_tree t)
        within in
        let this : length (get_or (spec_tree s).templates n (template_tree t)).tasks ≡ length t.tasks.items =
        ap (λ (u : TemplateTree). length u.tasks)
        (get_or_from_slice_get (spec_tree s).templates n (template_tree t) (template_tree t) here) ∙ as_long in
        let was = so.few in
        let grows = grown in
        omega arith;
  }

-- in the end, these are all
pub all_tasks-are : (s : Spec) (n : ℕ) (tasks : List Member) → n ≡ length s.templates.items →
    AreTasksBelow s n tasks → AreAllTasks (spec_tree s) tasks
all_tasks-are s n tasks end so = record {
  sound = so.sound;
  complete = λ m task is. so.complete m task (within m task is (slice_get (spec_tree s).templates m.template) refl) is;
  few =
      subst (λ ts. length tasks ≤ sum_by (λ (t : TemplateTree). length t.tasks) ts)
      (take_all n (spec_tree s).templates (omega (arith, end, as_many))) so.few;
}
  where
    as_many : length (spec_tree s).templates ≡ length s.templates.items
    as_many = length-map s.templates.items template_tree

    within : (m : Member) (task : TaskTree) → numbered_task (spec_tree s) m ≡ Some task →
        (o : Option TemplateTree) → slice_get (spec_tree s).templates m.template ≡ o → m.template < n
    within m task is None at =
        absurd (none-some task
        (sym (ap (option_and_then (λ (t : TemplateTree). slice_get t.tasks m.index)) at) ∙ is))
    within m task is (Some t) at =
        let inside : m.template < length (spec_tree s).templates =
        slice_get_within (spec_tree s).templates m.template t at in
        omega (arith, end, as_many)
