-- The controllable tasks of a sound design are those of its text.
use Rattle.std.proofs.Common.{◌≡◌, ◌⊎◌, inl, inr, ℕ, suc, ◌+◌, Bool, true, false, Option, None, Some, List, [], ◌∷◌, refl, sym, ap, ◌∙◌, subst, arith}
use Rattle.std.specs.Bool.{then_some}
use Rattle.std.specs.Prelude.{slice_get, IfSome}
use Rattle.std.specs.List.{AllByRecursion, enumerate_from, filter_map}
use Rattle.std.specs.Option.{option_map, option_and_then, option_to_list}
use Rattle.tm_syntax.specs.declared.design.Item.{Item}
use Rattle.tm_syntax.specs.Tree.{TaskTree, TemplateTree}
use Rattle.tm_syntax.specs.Scopes.Pauses.{is_controllable}
use Rattle.tm_syntax.specs.Faults.{IsSound}
use Rattle.tm_syntax.specs.Design.{DesignTree, InstanceNode, instance_items, member_path, template_of}
use Rattle.tm_syntax.specs.Design.Cells.{Called, task_called}
use Rattle.tm_syntax.specs.Design.Scope.{Site, site}
use Rattle.tm_sem.specs.Step.{task_of}
use Rattle.tm_typing.proofs.Listed.{In, first_of, later_of, filter_map_holds, flat_holds, holds_in, in_get, is_first_or_later, no_thing, one_thing}
use Rattle.tm_locations.proofs.CalledBodies.{made, site-number}

-- an item stands at the index that it is numbered with
at_index : {A : Type 0} (from : ℕ) (xs : List A) (p : ℕ × A) → In p (enumerate_from from xs) →
    (j : ℕ) × (p.0 ≡ from + j) × (slice_get xs j ≡ Some p.1)
at_index from [] p i = elim i [ ]
at_index {A} from (x ∷ xs) p i = by (is_first_or_later (enumerate_from (from + 1) xs) i) (at_index (from + 1) xs p)
  where
    by : ((from, x) ≡ p) ⊎ In p (enumerate_from (from + 1) xs) →
        (In p (enumerate_from (from + 1) xs) → (j : ℕ) × (p.0 ≡ from + 1 + j) × (slice_get xs j ≡ Some p.1)) →
        (j : ℕ) × (p.0 ≡ from + j) × (slice_get (x ∷ xs) j ≡ Some p.1)
    by (inl same) rest =
        let number : from ≡ p.0 = ap (λ (q : ℕ × A). q.0) same in
        (0, omega (arith, number), ap (λ (q : ℕ × A). Some q.1) same)
    by (inr later) rest = let found = rest later in let at = found.1 in (suc found.0, omega (arith, at), found.2)

pub indexed : {A : Type 0} (xs : List A) (p : ℕ × A) → In p (enumerate_from 0 xs) → slice_get xs p.0 ≡ Some p.1
indexed xs p i =
    let found = at_index 0 xs p i in
    let at = found.1 in
    let same : found.0 ≡ p.0 = omega (arith, at) in
    subst (λ j. slice_get xs j ≡ Some p.1) same found.2

-- of an option with something, that is it
in_option : {A : Type 0} (o : Option A) (x : A) → In x (option_to_list o) → o ≡ Some x
in_option None x i = elim i [ ]
in_option (Some y) x first_of = refl
in_option (Some y) x (later_of i) = elim i [ ]

module _ (d : DesignTree) (sound : IsSound d) where
  -- an item that leads to a controllable task, if it leads to one
  abbrev IsDriven : Item → Type 0
  IsDriven item =
      (s : Site) (k : ℕ) (task : TaskTree) → site d item.instance ≡ Some s → item.index ≡ Some k →
      slice_get s.template.tasks k ≡ Some task → is_controllable task.kind ≡ true

  made_driven : (i : ℕ × InstanceNode) → In i (enumerate_from 0 d.instances) → (t : TemplateTree) →
      In t (template_of d.spec i.1) → (x : ℕ × TaskTree) → In x (enumerate_from 0 t.tasks) →
      IfSome (then_some (is_controllable x.1.kind) (record {
        path = member_path i.1.path x.1.name.text;
        instance = i.0;
        index = Some x.0;
      })) IsDriven
  made_driven i at t of x among = by (is_controllable x.1.kind) refl
    where
      there : site d i.0 ≡ Some (record { number = i.0; node = i.1; template = t })
      there =
          ap (option_and_then (λ (node : InstanceNode). option_map
          (λ (u : TemplateTree). record { number = i.0; node = node; template = u })
          (slice_get d.spec.templates node.template))) (indexed d.instances i at)
          ∙ ap (option_map (λ (u : TemplateTree). record { number = i.0; node = i.1; template = u }))
          (in_option (slice_get d.spec.templates i.1.template) t of)

      by : (b : Bool) → is_controllable x.1.kind ≡ b → IfSome (then_some b (record {
        path = member_path i.1.path x.1.name.text;
        instance = i.0;
        index = Some x.0;
      })) IsDriven
      by false is = tt
      by true is = λ s k task here index found.
          let same_site : record { number = i.0; node = i.1; template = t } ≡ s = one_thing there here in
          let same : x.0 ≡ k = one_thing refl index in
          let there : slice_get t.tasks k ≡ Some task =
          subst (λ (u : TemplateTree). slice_get u.tasks k ≡ Some task) (ap (λ (s : Site). s.template) (sym same_site))
          found in
          let task_is : x.1 ≡ task =
          one_thing (subst (λ j. slice_get t.tasks j ≡ Some x.1) same (indexed t.tasks x among)) there in
          subst (λ (k : TaskTree). is_controllable k.kind ≡ true) task_is is

  items_driven : AllByRecursion IsDriven d.tasks
  items_driven =
      subst (AllByRecursion IsDriven) (sym sound.numbered.tasks)
      (flat_holds IsDriven
      (instance_items (λ t. t.tasks) (λ (k : TaskTree). is_controllable k.kind) (λ (k : TaskTree). k.name) d.spec)
      (enumerate_from 0 d.instances)
      (λ i at. flat_holds IsDriven (λ t. filter_map (item i) (enumerate_from 0 t.tasks)) (template_of d.spec i.1)
      (λ t j. filter_map_holds IsDriven (item i) (enumerate_from 0 t.tasks) (λ x among. made_driven i at t j x among))))
    where
      item : ℕ × InstanceNode → ℕ × TaskTree → Option Item
      item i x = then_some (is_controllable x.1.kind) (record {
        path = member_path i.1.path x.1.name.text;
        instance = i.0;
        index = Some x.0;
      })

  -- what the driver calls by a number: a controllable task of an instance
  pub record IsDrivenTask (c : Called) : Type 0 where
    pub at : Site
    pub number : ℕ
    pub task : TaskTree
    pub there : site d at.number ≡ Some at
    pub is : slice_get at.template.tasks number ≡ Some task
    pub called : made d at number task ≡ c
    pub controllable : is_controllable task.kind ≡ true

  pub driven : (n : ℕ) (c : Called) → task_of d n ≡ Some c → IsDrivenTask c
  driven n c is = of_item (slice_get d.tasks n) refl is
    where
      of_task : (item : Item) → IsDriven item → (s : Site) → site d item.instance ≡ Some s → (k : ℕ) →
          item.index ≡ Some k → (o : Option TaskTree) → slice_get s.template.tasks k ≡ o →
          option_map (made d s k) o ≡ Some c → IsDrivenTask c
      of_task item drives s there k index None at e = no_thing e
      of_task item drives s there k index (Some task) at e = record {
        at = s;
        number = k;
        task = task;
        there = site-number d item.instance s there;
        is = at;
        called = one_thing refl e;
        controllable = drives s k task there index at;
      }

      of_index : (item : Item) → IsDriven item → (s : Site) → site d item.instance ≡ Some s → (o : Option ℕ) →
          item.index ≡ o → option_and_then (task_called d s) o ≡ Some c → IsDrivenTask c
      of_index item drives s there None index e = no_thing e
      of_index item drives s there (Some k) index e =
          of_task item drives s there k index (slice_get s.template.tasks k) refl e

      of_site : (item : Item) → IsDriven item → (o : Option Site) → site d item.instance ≡ o →
          option_and_then (λ (s : Site). option_and_then (task_called d s) item.index) o ≡ Some c → IsDrivenTask c
      of_site item drives None there e = no_thing e
      of_site item drives (Some s) there e = of_index item drives s there item.index refl e

      of_item : (o : Option Item) → slice_get d.tasks n ≡ o →
          option_and_then (λ (item : Item). option_and_then
          (λ (s : Site). option_and_then (task_called d s) item.index) (site d item.instance)) o ≡ Some c →
          IsDrivenTask c
      of_item None at e = no_thing e
      of_item (Some item) at e =
          of_site item (holds_in IsDriven d.tasks items_driven (in_get d.tasks n at)) (site d item.instance) refl e
