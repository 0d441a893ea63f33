-- What the tasks and processes of an instance are, by tables.
use Rattle.std.proofs.Common.{◌≡◌, ℕ, Bor, List, Option, None, Some, length, slice_get, refl, sym, ap, ◌∙◌}
use Rattle.std.proofs.lemmas.Bool.{ltb-true, ltb-false}
use Rattle.std.proofs.lemmas.Option.{slice_get-get_or, slice_get-map, slice_get_past}
use Rattle.std.specs.Option.{option_copied, option_map, option_and_then}
use Rattle.std.specs.Slice.{IsItemAt}
use Rattle.tm_syntax.specs.declared.design.Instance.{Instance}
use Rattle.tm_syntax.specs.declared.design.Item.{Item}
use Rattle.tm_syntax.specs.declared.tree.ProcessDef.{ProcessDef}
use Rattle.tm_syntax.specs.declared.tree.Spec.{Spec}
use Rattle.tm_syntax.specs.declared.tree.TaskDef.{TaskDef}
use Rattle.tm_syntax.specs.declared.tree.Template.{Template}
use Rattle.tm_syntax.specs.Tree.{ProcessTree, SpecTree, TaskTree}
use Rattle.tm_syntax.specs.Tree.View.{body_tree, process_tree, task_tree, template_tree}
use Rattle.tm_syntax.specs.Scopes.Context.{process_body, task_body}
use Rattle.tm_syntax.specs.Design.{DesignTree, instance_node}
use Rattle.tm_syntax.specs.Design.Cells.{task_called}
use Rattle.tm_syntax.specs.Design.Locations.{Thread, thread}
use Rattle.tm_syntax.specs.Design.Scope.{Site, site}
use Rattle.tm_scope.specs.Instances.{InstanceTables, IsOver, bare_design, task_called_at}
use Rattle.tm_scope.specs.Members.{task_at}
use Rattle.tm_scope.proofs.SiteSteps.{no_instance, no_template, same_site, site-read}
use Rattle.tm_locations.specs.Inner.Walks.{seen}
use Rattle.tm_locations.proofs.CalledBodies.{made}
use Rattle.tm_locations.proofs.WalkCalls.{told}

-- what a slice lends at an index is its item there
item-there : {X : Type 0} (xs : List X) (k : ℕ) (r : Option (Bor X)) → IsItemAt xs k r →
    slice_get xs k ≡ option_copied r
item-there xs k None item = slice_get_past xs k (ltb-false k (length xs) (sym item.0))
item-there xs k (Some x) item =
    slice_get-get_or xs k x.now (ltb-true k (length xs) (sym item.0)) ∙ ap (λ y. Some y) (sym item.1)

pub item-read : {X : Type 0} (xs ys : List X) (k : ℕ) (r : Option (Bor X)) → ys ≡ xs → IsItemAt ys k r →
    slice_get xs k ≡ option_copied r
item-read xs ys k r is item = ap (λ zs. slice_get zs k) (sym is) ∙ item-there ys k r item

pub template-read : (x : InstanceTables) (spec : Spec) (ts : List Template) (k : ℕ) (r : Option (Bor Template)) →
    spec ≡ x.spec → ts ≡ spec.templates.items → IsItemAt ts k r → slice_get x.spec.templates.items k ≡ option_copied r
template-read x spec ts k r text is item =
    ap (λ (s : Spec). slice_get s.templates.items k) (sym text) ∙ item-read spec.templates.items ts k r is item

-- where there is no instance, there is no task
pub without-site : (d : DesignTree) (n k : ℕ) → site d n ≡ None →
    option_map told (task_called_at d (record { instance = n; index = k })) ≡ None
without-site d n k none = ap (λ o. option_map told (option_and_then (λ (u : Site). task_called d u k) o)) none

module _ (x : InstanceTables) (d : DesignTree) (over : IsOver x d) (n : ℕ) where
  over-site : site d n ≡ site (bare_design x) n
  over-site = same_site d (bare_design x) over.text over.instances n

  pub without-instance : slice_get x.instances n ≡ None → site d n ≡ None
  without-instance absent = over-site ∙ no_instance x n absent

  module _ (i : Instance) (at : slice_get x.instances n ≡ Some i) where
    pub without-template : slice_get x.spec.templates.items i.template ≡ None → site d n ≡ None
    without-template absent = over-site ∙ no_template x n i at absent

    module _ (t : Template) (there : slice_get x.spec.templates.items i.template ≡ Some t) where
      -- the site of an instance whose template is there
      abbrev pub here : Site
      here = record { number = n; node = instance_node i; template = template_tree t }

      pub site-here : site d n ≡ Some here
      site-here = over-site ∙ site-read x n i at t there

      -- a task of it, as a call runs it
      task-called : (k : ℕ) (o : Option TaskDef) → slice_get t.tasks.items k ≡ o →
          task_called_at d (record { instance = n; index = k }) ≡ option_map (λ def. made d here k (task_tree def)) o
      task-called k o is =
          ap (option_and_then (λ (u : Site). task_called d u k)) site-here
          ∙ ap (option_map (made d here k)) (slice_get-map task_tree t.tasks.items k ∙ ap (option_map task_tree) is)
          ∙ by o
        where
          by : (o : Option TaskDef) →
              option_map (made d here k) (option_map task_tree o) ≡ option_map (λ def. made d here k (task_tree def)) o
          by None = refl
          by (Some def) = refl

      pub without-task : (k : ℕ) → slice_get t.tasks.items k ≡ None →
          option_map told (task_called_at d (record { instance = n; index = k })) ≡ None
      without-task k is = ap (option_map told) (task-called k None is)

      pub with-task : (k : ℕ) (def : TaskDef) → slice_get t.tasks.items k ≡ Some def →
          option_map told (task_called_at d (record { instance = n; index = k }))
          ≡ Some (seen (record { instance = n; body = task_body k }) (body_tree def.body))
      with-task k def is = ap (option_map told) (task-called k (Some def) is)

      -- it is the one of its number in the text
      pub member-task : (k : ℕ) (def : TaskDef) → slice_get t.tasks.items k ≡ Some def →
          task_at d.spec (record { template = i.template; index = k }) ≡ Some (template_tree t, task_tree def)
      member-task k def is =
          ap (λ (s : SpecTree). task_at s (record { template = i.template; index = k })) over.text
          ∙ ap (option_and_then (λ u. option_map (λ (task : TaskTree). (u, task)) (slice_get u.tasks k)))
          (slice_get-map template_tree x.spec.templates.items i.template ∙ ap (option_map template_tree) there)
          ∙ ap (option_map (λ (task : TaskTree). (template_tree t, task)))
          (slice_get-map task_tree t.tasks.items k ∙ ap (option_map task_tree) is)

-- the processes of a design, by their items
abbrev made_thread : ℕ → ℕ → ProcessTree → Thread
made_thread n k q = record { scope = record { instance = n; body = process_body k }; process = q }

abbrev in_site : Option ℕ → Option Site → Option Thread
in_site index o =
    option_and_then (λ (at : Site).
    option_and_then (λ k. option_map (made_thread at.number k) (slice_get at.template.processes k)) index) o

module _ (d : DesignTree) (p : ℕ) (item : Item) (listed : slice_get d.processes p ≡ Some item) where
  thread-listed : thread d p ≡ in_site item.index (site d item.instance)
  thread-listed =
      ap (option_and_then (λ (item : Item). in_site item.index (site d item.instance))) listed

  pub no-thread-site : site d item.instance ≡ None → thread d p ≡ None
  no-thread-site none = thread-listed ∙ ap (in_site item.index) none

  none-in : (o : Option Site) → in_site None o ≡ None
  none-in None = refl
  none-in (Some s) = refl

  pub no-thread-index : item.index ≡ None → thread d p ≡ None
  no-thread-index none =
      thread-listed ∙ ap (λ index. in_site index (site d item.instance)) none ∙ none-in (site d item.instance)

  pub thread-at : (i : Instance) (t : Template) →
      site d item.instance
      ≡ Some (record { number = item.instance; node = instance_node i; template = template_tree t }) →
      (k : ℕ) → item.index ≡ Some k → (o : Option ProcessDef) → slice_get t.processes.items k ≡ o →
      thread d p ≡ option_map (λ (q : ProcessDef). made_thread item.instance k (process_tree q)) o
  thread-at i t there k index o is =
      thread-listed
      ∙ ap (in_site item.index) there
      ∙ ap (λ index. in_site index
      (Some (record { number = item.instance; node = instance_node i; template = template_tree t }))) index
      ∙ ap (option_map (made_thread item.instance k))
      (slice_get-map process_tree t.processes.items k ∙ ap (option_map process_tree) is)
      ∙ by o
    where
      by : (o : Option ProcessDef) → option_map (made_thread item.instance k) (option_map process_tree o)
          ≡ option_map (λ (q : ProcessDef). made_thread item.instance k (process_tree q)) o
      by None = refl
      by (Some q) = refl
