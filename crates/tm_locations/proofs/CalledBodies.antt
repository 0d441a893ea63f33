-- What a path calls from an instance, by the text where paths lead by it.
use Rattle.std.proofs.Common.{◌≡◌, ℕ, Option, None, Some, List, [], ◌∷◌, find, position, slice_get, refl, sym, ap, ◌∙◌}
use Rattle.std.proofs.lemmas.Option.{none-some, same_Some}
use Rattle.std.specs.List.{filter_map}
use Rattle.std.specs.Option.{option_map, option_and_then}
use Rattle.tm_syntax.specs.declared.tree.Ident.{Ident}
use Rattle.tm_syntax.specs.Tree.{TaskTree, TemplateTree}
use Rattle.tm_syntax.specs.Scopes.Context.{param_slot, task_body, task_frame}
use Rattle.tm_syntax.specs.Scopes.Names.{is_spelled, last_name}
use Rattle.tm_syntax.specs.Scopes.Pauses.{task_reached}
use Rattle.tm_syntax.specs.Design.{DesignTree, InstanceNode, neighbor}
use Rattle.tm_syntax.specs.Design.Cells.{Called, called, slot_cell, task_called}
use Rattle.tm_syntax.specs.Design.Scope.{Scope, Site, site, site_along}
use Rattle.tm_scope.proofs.Positions.{find-position}
use Rattle.tm_locations.specs.Locations.{LeadsByText}

module _ (d : DesignTree) where
  -- a site is that of its number, and has the template of its instance
  site-of : (n : ℕ) (s : Site) → site d n ≡ Some s →
      (s.number ≡ n) × (slice_get d.spec.templates s.node.template ≡ Some s.template)
  site-of n s e = by (slice_get d.instances n) e
    where
      in_template : (node : InstanceNode) (o : Option TemplateTree) → slice_get d.spec.templates node.template ≡ o →
          option_map (λ t. record { number = n; node = node; template = t }) o ≡ Some s →
          (s.number ≡ n) × (slice_get d.spec.templates s.node.template ≡ Some s.template)
      in_template node None at e = absurd (none-some s e)
      in_template node (Some t) at e =
          let is : record { number = n; node = node; template = t } ≡ s =
          same_Some (record { number = n; node = node; template = t }) s e in (
            ap (λ (s : Site). s.number) (sym is),
            ap (λ (s : Site). slice_get d.spec.templates s.node.template) (sym is) ∙ at
                ∙ ap (λ (s : Site). Some s.template) is,
          )

      by : (o : Option InstanceNode) →
          option_and_then (λ node. option_map (λ t. record { number = n; node = node; template = t })
          (slice_get d.spec.templates node.template)) o ≡ Some s →
          (s.number ≡ n) × (slice_get d.spec.templates s.node.template ≡ Some s.template)
      by None e = absurd (none-some s e)
      by (Some node) e = in_template node (slice_get d.spec.templates node.template) refl e

  pub site-number : (n : ℕ) (s : Site) → site d n ≡ Some s → site d s.number ≡ Some s
  site-number n s e = ap (site d) (site-of n s e).0 ∙ e

  pub site-template : (n : ℕ) (s : Site) → site d n ≡ Some s →
      slice_get d.spec.templates s.node.template ≡ Some s.template
  site-template n s e = (site-of n s e).1

  -- so is the site in which a path ends
  pub along-number : (path : List Ident) (s t : Site) → site d s.number ≡ Some s → site_along d s path ≡ Some t →
      site d t.number ≡ Some t
  along-number [] s t is e = ap (λ (u : Site). site d u.number) (sym (same_Some s t e)) ∙ is ∙ e
  along-number (name ∷ []) s t is e = ap (λ (u : Site). site d u.number) (sym (same_Some s t e)) ∙ is ∙ e
  along-number (name ∷ next ∷ names) s t is e =
      by (λ u there onward. along-number (next ∷ names) u t there onward) (neighbor s.node s.template name.text) e
    where
      at_site : ((u : Site) → site d u.number ≡ Some u → site_along d u (next ∷ names) ≡ Some t →
          site d t.number ≡ Some t) → (n : ℕ) (o : Option Site) → site d n ≡ o →
          option_and_then (λ u. site_along d u (next ∷ names)) o ≡ Some t → site d t.number ≡ Some t
      at_site onward n None there e = absurd (none-some t e)
      at_site onward n (Some u) there e = onward u (site-number n u there) e

      by : ((u : Site) → site d u.number ≡ Some u → site_along d u (next ∷ names) ≡ Some t →
          site d t.number ≡ Some t) → (o : Option ℕ) →
          option_and_then (λ n. option_and_then (λ u. site_along d u (next ∷ names)) (site d n)) o ≡ Some t →
          site d t.number ≡ Some t
      by onward None e = absurd (none-some t e)
      by onward (Some n) e = at_site onward n (site d n) refl e

  -- the task of a number of an instance, as a call runs it
  abbrev pub made : Site → ℕ → TaskTree → Called
  made u k task = record {
    scope = record { instance = u.number; body = task_body k };
    params = filter_map
        (λ p.
        slot_cell d (record { instance = u.number; body = task_body k }) u (task_frame d.spec u.template task)
        (param_slot p))
        task.params;
    body = task.body;
  }

  -- what a path from an instance calls: a task of the instance in which it ends
  pub record IsCalled (s : Site) (path : List Ident) (c : Called) : Type 0 where
    pub at : Site
    pub task : TaskTree
    pub number : ℕ
    pub there : site d at.number ≡ Some at
    pub along : site_along d s path ≡ Some at
    pub first : position (λ task. is_spelled (last_name path) task.name) at.template.tasks ≡ Some number
    pub is : slice_get at.template.tasks number ≡ Some task
    pub instance : c.scope.instance ≡ at.number
    pub body : c.body ≡ task.body

  module _ (n : ℕ) (s : Site) (there : site d n ≡ Some s) (path : List Ident) (c : Called) where
    of_task : (u : Site) → site_along d s path ≡ Some u → (k : ℕ) →
        position (λ task. is_spelled (last_name path) task.name) u.template.tasks ≡ Some k → (o : Option TaskTree) →
        slice_get u.template.tasks k ≡ o → option_map (made u k) o ≡ Some c → IsCalled s path c
    of_task u along k first None at e = absurd (none-some c e)
    of_task u along k first (Some task) at e =
        let is : made u k task ≡ c = same_Some (made u k task) c e in
        record {
          at = u;
          task = task;
          number = k;
          there = along-number path s u (site-number n s there) along;
          along = along;
          first = first;
          is = at;
          instance = ap (λ (c : Called). c.scope.instance) (sym is);
          body = ap (λ (c : Called). c.body) (sym is);
        }

    of_number : (u : Site) → site_along d s path ≡ Some u → (o : Option ℕ) →
        position (λ task. is_spelled (last_name path) task.name) u.template.tasks ≡ o →
        option_and_then (task_called d u) o ≡ Some c → IsCalled s path c
    of_number u along None first e = absurd (none-some c e)
    of_number u along (Some k) first e = of_task u along k first (slice_get u.template.tasks k) refl e

    of_site : (o : Option Site) → site_along d s path ≡ o →
        option_and_then (λ u. option_and_then (task_called d u)
        (position (λ task. is_spelled (last_name path) task.name) u.template.tasks)) o ≡ Some c → IsCalled s path c
    of_site None along e = absurd (none-some c e)
    of_site (Some u) along e =
        of_number u along (position (λ task. is_spelled (last_name path) task.name) u.template.tasks) refl e

  pub called-is : (scope : Scope) (s : Site) → site d scope.instance ≡ Some s → (path : List Ident) (c : Called) →
      called d scope path ≡ Some c → IsCalled s path c
  called-is scope s there path c e =
      of_site scope.instance s there path c (site_along d s path) refl
      (ap (option_and_then (λ at. option_and_then (λ u. option_and_then (task_called d u)
      (position (λ task. is_spelled (last_name path) task.name) u.template.tasks)) (site_along d at path)))
      (sym there) ∙ e)

  -- where paths lead by the text, the text leads to that task
  pub reached-by_text : LeadsByText d → (n : ℕ) (s : Site) → site d n ≡ Some s → (path : List Ident) (c : Called)
      (is : IsCalled s path c) → task_reached d.spec s.template path ≡ Some (is.at.template, is.task)
  reached-by_text by_text n s there path c is =
      ap (option_and_then (λ (t : TemplateTree). option_map (λ task. (t, task))
      (find (λ (task : TaskTree). is_spelled (last_name path) task.name) t.tasks)))
      (sym (by_text n s path there) ∙ ap (option_map (λ (t : Site). t.template)) is.along)
      ∙ ap (option_map (λ task. (is.at.template, task)))
      (find-position (λ (task : TaskTree). is_spelled (last_name path) task.name) is.at.template.tasks
      ∙ ap (option_and_then (slice_get is.at.template.tasks)) is.first ∙ is.is)
