-- Where the body of a task of an instance stands.
use Rattle.std.proofs.Common.{◌≡◌, ℕ, Option, None, Some, slice_get, refl, sym, ap, ◌∙◌}
use Rattle.std.proofs.lemmas.Option.{none-some, same_Some}
use Rattle.std.specs.Option.{option_map, option_and_then}
use Rattle.tm_syntax.specs.Tree.{TemplateTree}
use Rattle.tm_syntax.specs.Design.{DesignTree, InstanceNode}
use Rattle.tm_syntax.specs.Design.Cells.{Called, task_called}
use Rattle.tm_syntax.specs.Design.Scope.{Site, site}
use Rattle.tm_scope.specs.Instances.{task_called_at}
use Rattle.tm_scope.specs.declared.members.SiteTask.{SiteTask}

-- what a mapped option comes from
pub mapped : {X Y : Type 0} (f : X → Y) (o : Option X) (y : Y) → option_map f o ≡ Some y →
    (x : X) × (f x ≡ y) × (o ≡ Some x)
mapped f None y e = absurd (none-some y e)
mapped f (Some x) y e = (x, same_Some (f x) y e, refl)

-- what an option leads to that leads on
pub leads-some : {X Y : Type 0} (f : X → Option Y) (o : Option X) (y : Y) → option_and_then f o ≡ Some y →
    (x : X) × (o ≡ Some x) × (f x ≡ Some y)
leads-some f None y e = absurd (none-some y e)
leads-some f (Some x) y e = (x, refl, e)

module _ (d : DesignTree) where
  -- a site has its own number
  pub number-of_site : (n : ℕ) (s : Site) → site d n ≡ Some s → s.number ≡ n
  number-of_site n s e = by (slice_get d.instances n) e
    where
      in_template : (node : InstanceNode) (o : Option TemplateTree) →
          option_map (λ t. record { number = n; node = node; template = t }) o ≡ Some s → s.number ≡ n
      in_template node None e = absurd (none-some s e)
      in_template node (Some t) e =
          ap (λ (s : Site). s.number) (sym (same_Some (record { number = n; node = node; template = t }) s e))

      by : (o : Option InstanceNode) →
          option_and_then (λ node. option_map (λ t. record { number = n; node = node; template = t })
          (slice_get d.spec.templates node.template)) o ≡ Some s → s.number ≡ n
      by None e = absurd (none-some s e)
      by (Some node) e = in_template node (slice_get d.spec.templates node.template) e

  -- a task that is called stands in the instance of its number
  pub called-in : (at : Site) (n : ℕ) (k : Called) → task_called d at n ≡ Some k → k.scope.instance ≡ at.number
  called-in at n k e =
      let found = mapped _ (slice_get at.template.tasks n) k e in ap (λ (c : Called). c.scope.instance) (sym found.1)

  pub task-site : (task : SiteTask) (k : Called) → task_called_at d task ≡ Some k →
      (s : Site) × (site d k.scope.instance ≡ Some s)
  task-site task k e = of_site (site d task.instance) refl e
    where
      of_site : (o : Option Site) → site d task.instance ≡ o →
          option_and_then (λ at. task_called d at task.index) o ≡ Some k →
          (s : Site) × (site d k.scope.instance ≡ Some s)
      of_site None there e = absurd (none-some k e)
      of_site (Some s) there e =
          (s, ap (site d) (called-in s task.index k e ∙ number-of_site task.instance s there) ∙ there)
