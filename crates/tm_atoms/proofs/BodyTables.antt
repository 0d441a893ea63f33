-- What the items of a design are, by tables.
use Rattle.std.proofs.Common.{◌≡◌, ℕ, Bor, List, Option, None, Some, length, slice_get, refl, sym, ap, ◌∙◌, subst}
use Rattle.std.proofs.lemmas.Bool.{ltb-true, ltb-false}
use Rattle.std.proofs.lemmas.Option.{none-some, slice_get-get_or, slice_get-map, slice_get_past}
use Rattle.std.specs.Prelude.{IfSome}
use Rattle.std.specs.Option.{option_copied, option_map, option_and_then}
use Rattle.std.specs.List.{filter_map}
use Rattle.std.specs.Slice.{IsItemAt}
use Rattle.tm_syntax.specs.declared.design.Instance.{Instance}
use Rattle.tm_syntax.specs.declared.design.Item.{Item}
use Rattle.tm_syntax.specs.declared.tree.Spec.{Spec}
use Rattle.tm_syntax.specs.declared.tree.Template.{Template}
use Rattle.tm_syntax.specs.declared.tree.Ident.{Ident}
use Rattle.tm_syntax.specs.Tree.{SpecTree, TaskTree, TemplateTree}
use Rattle.tm_syntax.specs.Tree.View.{template_tree}
use Rattle.tm_syntax.specs.Scopes.Context.{param_slot, task_body, task_frame}
use Rattle.tm_syntax.specs.Design.{DesignTree, InstanceNode, instance_node}
use Rattle.tm_syntax.specs.Design.Cells.{Called, called, slot_cell, task_called}
use Rattle.tm_syntax.specs.Design.Scope.{Scope, Site, site}
use Rattle.tm_scope.specs.Cells.{CellTables, HasCells, ScopedCells}
use Rattle.tm_scope.specs.Instances.{InstanceTables, IsOver, task_called_at}
use Rattle.tm_atoms.specs.Inner.Bodies.{IsCallee, instance_template, item_seen}

-- what a slice lends at an index is its item there
item-there : {X : Type 0} (xs : List X) (k : ℕ) (r : Option (Bor X)) → IsItemAt xs k r →
    slice_get xs k ≡ option_copied r
item-there xs k None item = slice_get_past xs k (ltb-false k (length xs) (sym item.0))
item-there xs k (Some x) item =
    slice_get-get_or xs k x.now (ltb-true k (length xs) (sym item.0)) ∙ ap (λ y. Some y) (sym item.1)

-- of a slice of a vector
pub item-read : {X : Type 0} (xs ys : List X) (k : ℕ) (r : Option (Bor X)) → ys ≡ xs → IsItemAt ys k r →
    slice_get xs k ≡ option_copied r
item-read xs ys k r is item = ap (λ zs. slice_get zs k) (sym is) ∙ item-there ys k r item

-- the instances of some tables are those of their design
pub sites-over : (x : CellTables) (s : InstanceTables) (d : DesignTree) →
    s ≡ record { spec = x.spec; instances = x.instances } → HasCells x d → IsOver s d
sites-over x s d is over =
    subst (λ (s : InstanceTables). IsOver s d) (sym is) (record { text = over.text; instances = over.instances })

module _ (x : CellTables) (d : DesignTree) (over : HasCells x d) (n : ℕ) where
  -- the template of an instance, by the instance
  template-of : (o : Option Instance) → slice_get x.instances n ≡ o →
      instance_template d n
      ≡ option_and_then (λ (i : Instance). slice_get d.spec.templates i.template) o
  template-of o at =
      ap (option_and_then (λ (node : InstanceNode). slice_get d.spec.templates node.template))
      (ap (λ nodes. slice_get nodes n) over.instances ∙ slice_get-map instance_node x.instances n
      ∙ ap (option_map instance_node) at) ∙ by o
    where
      by : (o : Option Instance) →
          option_and_then (λ (node : InstanceNode). slice_get d.spec.templates node.template)
          (option_map instance_node o)
          ≡ option_and_then (λ (i : Instance). slice_get d.spec.templates i.template) o
      by None = refl
      by (Some i) = refl

  pub template-absent : (r : Option (Bor Template)) → r ≡ None → slice_get x.instances n ≡ None →
      option_map template_tree (option_copied r) ≡ instance_template d n
  template-absent r none absent =
      ap (λ r. option_map template_tree (option_copied r)) none ∙ sym (template-of None absent)

  pub template-there : (i : Instance) → slice_get x.instances n ≡ Some i → (spec : Spec) → spec ≡ x.spec →
      (ts : List Template) → ts ≡ spec.templates.items → (r : Option (Bor Template)) → IsItemAt ts i.template r →
      option_map template_tree (option_copied r) ≡ instance_template d n
  template-there i at spec text ts is r item =
      ap (option_map template_tree)
      (sym (ap (λ (s : Spec). slice_get s.templates.items i.template) (sym text)
      ∙ item-read spec.templates.items ts i.template r is item))
      ∙ sym (template-of (Some i) at
      ∙ ap (λ (s : SpecTree). slice_get s.templates i.template) over.text
      ∙ slice_get-map template_tree x.spec.templates.items i.template)

module _ {X Y : Type 0} (d : DesignTree) (sort : TemplateTree → List X) (found : ℕ → X → Y) (item : Item) where
  pub seen-without_template : instance_template d item.instance ≡ None → item_seen d sort found item ≡ None
  seen-without_template none =
      ap (option_and_then (λ t. option_and_then (λ k. option_map (found k) (slice_get (sort t) k)) item.index)) none

  module _ (t : TemplateTree) (there : instance_template d item.instance ≡ Some t) where
    in-template : item_seen d sort found item
        ≡ option_and_then (λ k. option_map (found k) (slice_get (sort t) k)) item.index
    in-template =
        ap (option_and_then (λ t. option_and_then (λ k. option_map (found k) (slice_get (sort t) k)) item.index)) there

    pub seen-without_index : item.index ≡ None → item_seen d sort found item ≡ None
    seen-without_index none =
        in-template ∙ ap (option_and_then (λ k. option_map (found k) (slice_get (sort t) k))) none

    pub seen-at : (k : ℕ) → item.index ≡ Some k → (o : Option X) → slice_get (sort t) k ≡ o →
        item_seen d sort found item ≡ option_map (found k) o
    seen-at k at o is =
        in-template ∙ ap (option_and_then (λ k. option_map (found k) (slice_get (sort t) k))) at
        ∙ ap (option_map (found k)) is

-- nothing is seen where nothing is found
pub nothing-seen : {X Y : Type 0} (f : X → Y) (r : Option X) (o : Option Y) → r ≡ None → o ≡ None → option_map f r ≡ o
nothing-seen f r o none is = ap (option_map f) none ∙ sym is

-- a task of an instance, as a call runs it
abbrev pub made : DesignTree → Site → ℕ → TaskTree → Called
made d s k task = record {
  scope = record { instance = s.number; body = task_body k };
  params = filter_map
      (λ p.
      slot_cell d (record { instance = s.number; body = task_body k }) s (task_frame d.spec s.template task)
      (param_slot p))
      task.params;
  body = task.body;
}

-- an instance of a number, with its template
abbrev pub placed : ℕ → InstanceNode → TemplateTree → Site
placed n node t = record { number = n; node = node; template = t }

module _ (d : DesignTree) (n : ℕ) where
  -- an instance without a template is no site
  site-none : instance_template d n ≡ None → site d n ≡ None
  site-none e = by (slice_get d.instances n) e
    where
      of_node : (node : InstanceNode) (o : Option TemplateTree) → o ≡ None →
          option_map (placed n node) o ≡ None
      of_node node o none = ap (option_map (placed n node)) none

      by : (o : Option InstanceNode) →
          option_and_then (λ (node : InstanceNode). slice_get d.spec.templates node.template) o ≡ None →
          option_and_then (λ (node : InstanceNode). option_map (placed n node)
          (slice_get d.spec.templates node.template)) o ≡ None
      by None e = refl
      by (Some node) e = of_node node (slice_get d.spec.templates node.template) e

  -- one with a template is a site
  site-some : (t : TemplateTree) → instance_template d n ≡ Some t →
      (s : Site) × (site d n ≡ Some s) × (s.number ≡ n) × (s.template ≡ t)
  site-some t e = by (slice_get d.instances n) refl e
    where
      by : (o : Option InstanceNode) → slice_get d.instances n ≡ o →
          option_and_then (λ (node : InstanceNode). slice_get d.spec.templates node.template) o ≡ Some t →
          (s : Site) × (site d n ≡ Some s) × (s.number ≡ n) × (s.template ≡ t)
      by None at e = absurd (none-some t e)
      by (Some node) at e = (
        placed n node t,
        ap (option_and_then (λ (node : InstanceNode). option_map (placed n node)
            (slice_get d.spec.templates node.template))) at
            ∙ ap (option_map (placed n node)) e,
        refl,
        refl,
      )

  pub uncalled-template : (k : ℕ) → instance_template d n ≡ None →
      task_called_at d (record { instance = n; index = k }) ≡ None
  uncalled-template k none = ap (option_and_then (λ (s : Site). task_called d s k)) (site-none none)

  module _ (t : TemplateTree) (there : instance_template d n ≡ Some t) (k : ℕ) where
    pub uncalled-task : slice_get t.tasks k ≡ None → task_called_at d (record { instance = n; index = k }) ≡ None
    uncalled-task none =
        let s = site-some t there in
        ap (option_and_then (λ (s : Site). task_called d s k)) s.1
        ∙ ap (option_map (made d s.0 k)) (ap (λ (t : TemplateTree). slice_get t.tasks k) s.3 ∙ none)

    pub called-task : (from : Scope) (path : List Ident) (task : TaskTree) → slice_get t.tasks k ≡ Some task →
        task_called_at d (record { instance = n; index = k }) ≡ called d from path →
        IsCallee d from path (record { instance = n; index = k }) task.body
    called-task from path task is leads =
        let s = site-some t there in
        let at : task_called_at d (record { instance = n; index = k }) ≡ Some (made d s.0 k task) =
        ap (option_and_then (λ (s : Site). task_called d s k)) s.1
        ∙ ap (option_map (made d s.0 k)) (ap (λ (t : TemplateTree). slice_get t.tasks k) s.3 ∙ is) in
        record {
          callee = made d s.0 k task;
          is = sym leads ∙ at;
          there = at;
          scope = λ i. record { instance = s.2 i; body = task_body k };
          body = refl;
        }

-- what is found, if anything is, is of the body that is asked for
pub scope-at : {A : Type 0} (o : Option A) (r : Option ScopedCells) (y : ScopedCells) → r ≡ option_map (λ _. y) o →
    IfSome r (λ s. s.at ≡ y.at)
scope-at {A} o r y is = subst (λ r. IfSome r (λ (s : ScopedCells). s.at ≡ y.at)) (sym is) (by o)
  where
    by : (o : Option A) → IfSome (option_map (λ _. y) o) (λ s. s.at ≡ y.at)
    by None = tt
    by (Some a) = refl

-- what holds of what is found holds where there is a site
pub scope-there : {A : Type 0} (P : ScopedCells → Type 0) (o : Option A) (a : A) (r : Option ScopedCells)
    (y : ScopedCells) → r ≡ option_map (λ _. y) o → o ≡ Some a → IfSome r P → P y
scope-there P o a r y is there holds = subst (λ r. IfSome r P) (is ∙ ap (option_map (λ _. y)) there) holds
