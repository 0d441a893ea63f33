-- What a path calls, by the numbers of instances.
use Rattle.std.proofs.Common.{◌≡◌, ℕ, Option, None, Some, List, position, slice_get, refl, sym, ap, ◌∙◌}
use Rattle.std.specs.Option.{option_and_then}
use Rattle.tm_syntax.specs.declared.design.Instance.{Instance}
use Rattle.tm_syntax.specs.declared.tree.Ident.{Ident}
use Rattle.tm_syntax.specs.declared.tree.Template.{Template}
use Rattle.tm_syntax.specs.Tree.View.{template_tree}
use Rattle.tm_syntax.specs.Design.{DesignTree, instance_node}
use Rattle.tm_syntax.specs.Design.Cells.{Called, called, task_called}
use Rattle.tm_syntax.specs.Design.Scope.{Site, site, site_along}
use Rattle.tm_syntax.specs.Scopes.Context.{BodyName}
use Rattle.tm_syntax.specs.Scopes.Names.{is_spelled, last_name}
use Rattle.tm_scope.specs.Instances.{InstanceTables, IsOver, bare_design, task_called_at}
use Rattle.tm_scope.proofs.SiteSteps.{no_template, onward, same_site, same_site_along, site-read}

module _ (x : InstanceTables) (d : DesignTree) (over : IsOver x d) (path : List Ident) where
  -- the task that the last name of a path means in an instance
  abbrev pub last_called : Site → Option Called
  last_called s = option_and_then (task_called d s)
      (position (λ task. is_spelled (last_name path) task.name) s.template.tasks)

  assoc : (o : Option Site) →
      option_and_then (λ at. option_and_then last_called (site_along d at path)) o
      ≡ option_and_then last_called (option_and_then (λ at. site_along d at path) o)
  assoc None = refl
  assoc (Some at) = refl

  module _ (from : ℕ) (r : Option ℕ)
      (leads : option_and_then (site (bare_design x)) r
      ≡ option_and_then (λ at. site_along (bare_design x) at path) (site (bare_design x) from)) where
    pub called-along : (body : BodyName) →
        called d (record { instance = from; body = body }) path
        ≡ option_and_then last_called (option_and_then (site (bare_design x)) r)
    called-along body =
        assoc (site d from)
        ∙ ap (option_and_then last_called)
        (onward d (bare_design x) over.text over.instances path
        (λ at. same_site_along d (bare_design x) over.text over.instances at path) (site d from)
        ∙ ap (option_and_then (λ at. site_along (bare_design x) at path))
        (same_site d (bare_design x) over.text over.instances from)
        ∙ sym leads)

    -- nowhere
    pub called-nowhere : (body : BodyName) → r ≡ None → called d (record { instance = from; body = body }) path ≡ None
    called-nowhere body none =
        called-along body ∙ ap (λ r. option_and_then last_called (option_and_then (site (bare_design x)) r)) none

    pub called-missing : (body : BodyName) (n : ℕ) → r ≡ Some n → site (bare_design x) n ≡ None →
        called d (record { instance = from; body = body }) path ≡ None
    called-missing body n is none =
        called-along body ∙ ap (λ r. option_and_then last_called (option_and_then (site (bare_design x)) r)) is
        ∙ ap (option_and_then last_called) none

    -- at a site
    pub called-there : (body : BodyName) (n : ℕ) (s : Site) (index : Option ℕ) → r ≡ Some n →
        site (bare_design x) n ≡ Some s →
        index ≡ position (λ task. is_spelled (last_name path) task.name) s.template.tasks →
        option_and_then (λ k. task_called_at d (record { instance = n; index = k })) index
        ≡ called d (record { instance = from; body = body }) path
    called-there body n s index is there found =
        by index
        ∙ ap (option_and_then (task_called d s)) found
        ∙ sym (called-along body ∙ ap (λ r. option_and_then last_called (option_and_then (site (bare_design x)) r)) is
        ∙ ap (option_and_then last_called) there)
      where
        by : (o : Option ℕ) →
            option_and_then (λ k. task_called_at d (record { instance = n; index = k })) o
            ≡ option_and_then (task_called d s) o
        by None = refl
        by (Some k) =
            ap (option_and_then (λ at. task_called d at k))
            (same_site d (bare_design x) over.text over.instances n ∙ there)

    -- at an instance, by the index that its template has
    pub called-at : (body : BodyName) (n : ℕ) (node : Instance) (index : Option ℕ) → r ≡ Some n →
        slice_get x.instances n ≡ Some node →
        index ≡ option_and_then (λ (t : Template). position (λ task. is_spelled (last_name path) task.name)
        (template_tree t).tasks) (slice_get x.spec.templates.items node.template) →
        option_and_then (λ k. task_called_at d (record { instance = n; index = k })) index
        ≡ called d (record { instance = from; body = body }) path
    called-at body n node index is at found = by (slice_get x.spec.templates.items node.template) refl
      where
        found_in : (o : Option Template) → slice_get x.spec.templates.items node.template ≡ o →
            index ≡ option_and_then (λ (t : Template). position (λ task. is_spelled (last_name path) task.name)
            (template_tree t).tasks) o
        found_in o there =
            found ∙ ap (option_and_then (λ (t : Template). position (λ task. is_spelled (last_name path) task.name)
            (template_tree t).tasks)) there

        by : (o : Option Template) → slice_get x.spec.templates.items node.template ≡ o →
            option_and_then (λ k. task_called_at d (record { instance = n; index = k })) index
            ≡ called d (record { instance = from; body = body }) path
        by None absent =
            ap (option_and_then (λ k. task_called_at d (record { instance = n; index = k }))) (found_in None absent)
            ∙ sym (called-missing body n is (no_template x n node at absent))
        by (Some t) there =
            called-there body n (record { number = n; node = instance_node node; template = template_tree t }) index
            is (site-read x n node at t there) (found_in (Some t) there)
