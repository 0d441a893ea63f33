-- How the steps of a walk become fewer.
use Rattle.std.proofs.Common.{◌≡◌, ⊎_elim, ℕ, zero, suc, ◌+◌, ◌<◌, ◌≤◌, Bool, true, false, cond, Option, None, Some, List, [], ◌∷◌, ◌++◌, length, slice_get, refl, sym, ap, ◌∙◌, true≢false, arith}
use Rattle.std.specs.Prelude.{◌||◌, ◌&&◌}
use Rattle.std.proofs.lemmas.Bool.{cases_lt}
use Rattle.std.specs.Option.{option_map_or, option_and_then, option_map}
use Rattle.std.proofs.lemmas.List.Folds.{list_any-append}
use Rattle.std.proofs.lemmas.Option.{none-some, slice_get_within}
use Rattle.tm_syntax.specs.Tree.{TemplateTree}
use Rattle.tm_syntax.specs.Design.{DesignTree, InstanceNode}
use Rattle.tm_syntax.specs.Design.Cells.{Called, task_called}
use Rattle.tm_syntax.specs.Design.Scope.{Site, site}
use Rattle.tm_scope.proofs.Entries.{same_or_not}
use Rattle.tm_scope.specs.Instances.{task_called_at}
use Rattle.tm_scope.specs.declared.members.SiteTask.{SiteTask}
use Rattle.tm_atoms.specs.Inner.Walks.{has_entered, same_site_task}
use Rattle.tm_atoms.specs.Inner.Weights.{body_weight, sum_below, task_count, task_weight, unentered_weight}
use Rattle.tm_atoms.proofs.SameAtoms.{number-itself}
use Rattle.tm_atoms.proofs.TaskSites.{mapped}

module _ (f g : ℕ → ℕ) (less : (k : ℕ) → g k ≤ f k) where
  sum-less : (n : ℕ) → sum_below g n ≤ sum_below f n
  sum-less zero = omega arith
  sum-less (suc n) = omega (arith, less n, sum-less n)

  -- where one summand is less by so much, so is the sum
  sum-drops : (n k by : ℕ) → k < n → g k + by ≤ f k → sum_below g n + by ≤ sum_below f n
  sum-drops zero k by below drop = absurd (omega (arith, below))
  sum-drops (suc n) k by below drop =
      ⊎_elim (λ e. here (ap g e) (ap f e))
      (λ other. let under = other-below below other in later (sum-drops n k by under drop)) (same_or_not k n)
    where
      here : g k ≡ g n → f k ≡ f n → sum_below g (suc n) + by ≤ sum_below f (suc n)
      here a b = omega (arith, sum-less n, drop, a, b)

      other-below : k < suc n → (k ≡ n → ⊥) → k < n
      other-below below other =
          ⊎_elim (λ under. under) (λ above. absurd (other (omega (arith, below, above)))) (cases_lt k n)

      later : sum_below g n + by ≤ sum_below f n → sum_below g (suc n) + by ≤ sum_below f (suc n)
      later drops = omega (arith, less n, drops)

module _ (d : DesignTree) (tasks : List SiteTask) (task : SiteTask) where
  weight-less : (other : SiteTask) → task_weight d (tasks ++ task ∷ []) other ≤ task_weight d tasks other
  weight-less other =
      by (has_entered tasks other) (has_entered (tasks ++ task ∷ []) other) (same_site_task other task)
      (option_map_or (λ (k : Called). body_weight k.body) (task_called_at d other) 0)
      (list_any-append (same_site_task other) tasks (task ∷ []))
    where
      by : (old new one : Bool) (w : ℕ) → new ≡ (old || (one || false)) → cond new 0 w ≤ cond old 0 w
      by true true one w e = omega arith
      by true false one w e = absurd (true≢false (sym e))
      by false true one w e = omega arith
      by false false one w e = omega arith

  module _ (k : Called) (there : task_called_at d task ≡ Some k) (new : has_entered tasks task ≡ false) where
    entered : has_entered (tasks ++ task ∷ []) task ≡ true
    entered =
        list_any-append (same_site_task task) tasks (task ∷ [])
        ∙ (λ i. has_entered tasks task || ((number-itself task.instance i && number-itself task.index i) || false))
        ∙ ap (λ b. b || true) new

    weight-drops : task_weight d (tasks ++ task ∷ []) task + body_weight k.body ≤ task_weight d tasks task
    weight-drops =
        let zero_now : task_weight d (tasks ++ task ∷ []) task ≡ 0 =
        ap (λ b. cond b 0 (option_map_or (λ (k : Called). body_weight k.body) (task_called_at d task) 0)) entered in
        let was : task_weight d tasks task ≡ body_weight k.body =
        (λ i. cond (new i) 0 (option_map_or (λ (k : Called). body_weight k.body) (there i) 0)) in
        omega (arith, zero_now, was)

    -- the instance and the task are there
    site-there : (s : Site) × (site d task.instance ≡ Some s) × (task_called d s task.index ≡ Some k)
    site-there = by (site d task.instance) refl there
      where
        by : (o : Option Site) → site d task.instance ≡ o →
            option_and_then (λ at. task_called d at task.index) o ≡ Some k →
            (s : Site) × (site d task.instance ≡ Some s) × (task_called d s task.index ≡ Some k)
        by None e is = absurd (none-some k is)
        by (Some s) e is = (s, e, is)

    instance-below : task.instance < length d.instances
    instance-below = by (slice_get d.instances task.instance) refl site-there.1
      where
        by : (o : Option InstanceNode) → slice_get d.instances task.instance ≡ o →
            option_and_then (λ node. option_map (λ (t : TemplateTree).
            record { number = task.instance; node = node; template = t }) (slice_get d.spec.templates node.template)) o
            ≡ Some site-there.0 → task.instance < length d.instances
        by None e is = absurd (none-some site-there.0 is)
        by (Some node) e is = slice_get_within d.instances task.instance node e

    index-below : task.index < task_count d task.instance
    index-below =
        let at = mapped _ (slice_get site-there.0.template.tasks task.index) k site-there.2 in
        let count : task_count d task.instance ≡ length site-there.0.template.tasks =
        ap (λ o. option_map_or (λ (s : Site). length s.template.tasks) o 0) site-there.1 in
        let below = slice_get_within site-there.0.template.tasks task.index at.0 at.2 in
        omega (arith, count, below)

    -- a body that is entered counts no longer
    pub unentered-drops : unentered_weight d (tasks ++ task ∷ []) + body_weight k.body ≤ unentered_weight d tasks
    unentered-drops =
        sum-drops
        (λ i. sum_below (λ k. task_weight d tasks (record { instance = i; index = k })) (task_count d i))
        (λ i. sum_below (λ k. task_weight d (tasks ++ task ∷ []) (record { instance = i; index = k })) (task_count d i))
        (λ i. sum-less (λ k. task_weight d tasks (record { instance = i; index = k }))
        (λ k. task_weight d (tasks ++ task ∷ []) (record { instance = i; index = k }))
        (λ k. weight-less (record { instance = i; index = k })) (task_count d i))
        (length d.instances) task.instance (body_weight k.body) instance-below
        (sum-drops (λ k. task_weight d tasks (record { instance = task.instance; index = k }))
        (λ k. task_weight d (tasks ++ task ∷ []) (record { instance = task.instance; index = k }))
        (λ k. weight-less (record { instance = task.instance; index = k })) (task_count d task.instance) task.index
        (body_weight k.body) index-below weight-drops)
