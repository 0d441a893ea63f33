-- Each controllable task of a design is one of its text.
use Rattle.std.proofs.Common.{◌≡◌, ℕ, zero, suc, ◌+◌, ◌<◌, Bool, true, false, Option, None, Some, List, [], ◌∷◌, ◌++◌, ◌⊎◌, inl, inr, length, refl, sym, ap, ◌∙◌, subst, arith}
use Rattle.std.specs.Prelude.{slice_get}
use Rattle.std.specs.Bool.{then_some}
use Rattle.std.specs.List.{cons_option, enumerate_from, filter_map, flat_map}
use Rattle.std.specs.Option.{option_and_then, option_map, option_to_list}
use Rattle.tm_syntax.specs.declared.design.Item.{Item}
use Rattle.tm_syntax.specs.Tree.{TaskTree, TemplateTree}
use Rattle.tm_syntax.specs.Scopes.Context.{param_slot, task_body, task_frame}
use Rattle.tm_syntax.specs.Scopes.Pauses.{is_controllable}
use Rattle.tm_syntax.specs.Design.{DesignTree, InstanceNode, IsDesign, instance_items, member_path, template_of}
use Rattle.tm_syntax.specs.Design.Cells.{Called, slot_cell, task_called}
use Rattle.tm_syntax.specs.Design.Scope.{Site, site}
use Rattle.tm_sem.specs.Step.{task_of}

-- ---- what stands in a list
-- an element of a list, at some place
abbrev In : {X : Type 0} → X → List X → Type 0
In x xs = (k : ℕ) × (slice_get xs k ≡ Some x)

in_nothing : {X : Type 0} → (x : X) → In x [] → ⊥
in_nothing x (k, is) = let wrong : None ≡ Some x = is in cc

in_cons : {X : Type 0} → (x y : X) (xs : List X) → In x (y ∷ xs) → (y ≡ x) ⊎ In x xs
in_cons x y xs (zero, is) = let same : Some y ≡ Some x = is in inl (cc)
in_cons x y xs (suc k, is) = inr (k, is)

in_append : {X : Type 0} → (x : X) (xs ys : List X) → In x (xs ++ ys) → In x xs ⊎ In x ys
in_append x [] ys there = inr there
in_append x (y ∷ xs) ys (zero, is) = inl (0, is)
in_append x (y ∷ xs) ys (suc k, is) =
    elim (in_append x xs ys (k, is)) as (λ _. In x (y ∷ xs) ⊎ In x ys) [
      | inl first ↦ inl (suc first.0, first.1)
      | inr second ↦ inr second
    ]

-- an element of a list that was made element by element comes from one of these
record FromOne {X A : Type 0} (f : X → List A) (xs : List X) (a : A) : Type 0 where
  one : X
  there : In one xs
  gives : In a (f one)

in_flat_map : {X A : Type 0} → (f : X → List A) (xs : List X) (a : A) → In a (flat_map f xs) → FromOne f xs a
in_flat_map f [] a there = absurd (in_nothing a there)
in_flat_map f (x ∷ xs) a there =
    elim (in_append a (f x) (flat_map f xs) there) as (λ _. FromOne f (x ∷ xs) a) [
      | inl here ↦ record { one = x; there = (0, refl); gives = here }
      | inr later ↦
          let rest = in_flat_map f xs a later in
          record { one = rest.one; there = (suc rest.there.0, rest.there.1); gives = rest.gives }
    ]

record Kept {X A : Type 0} (h : X → Option A) (xs : List X) (a : A) : Type 0 where
  one : X
  there : In one xs
  gives : h one ≡ Some a

kept_of : {X A : Type 0} → (h : X → Option A) (x : X) (xs : List X) (a : A) →
    (In a (filter_map h xs) → Kept h xs a) → (o : Option A) → h x ≡ o → In a (cons_option o (filter_map h xs)) →
    Kept h (x ∷ xs) a
kept_of h x xs a later None is there =
    let kept = later there in
    record { one = kept.one; there = (suc kept.there.0, kept.there.1); gives = kept.gives }
kept_of h x xs a later (Some b) is there =
    elim (in_cons a b (filter_map h xs) there) as (λ _. Kept h (x ∷ xs) a) [
      | inl same ↦ record { one = x; there = (0, refl); gives = is ∙ ap Some same }
      | inr rest ↦
          let kept = later rest in
          record { one = kept.one; there = (suc kept.there.0, kept.there.1); gives = kept.gives }
    ]

in_filter_map : {X A : Type 0} → (h : X → Option A) (xs : List X) (a : A) → In a (filter_map h xs) → Kept h xs a
in_filter_map h [] a there = absurd (in_nothing a there)
in_filter_map h (x ∷ xs) a there = kept_of h x xs a (λ rest. in_filter_map h xs a rest) (h x) refl there

in_enumerate : {X : Type 0} → (a : ℕ) (xs : List X) (p : ℕ × X) → In p (enumerate_from a xs) →
    (k : ℕ) × (a + k ≡ p.0) × (slice_get xs k ≡ Some p.1)
in_enumerate a [] p there = absurd (in_nothing p there)
in_enumerate {X} a (x ∷ xs) p there =
    elim (in_cons p (a, x) (enumerate_from (a + 1) xs) there) as (λ _.
    (k : ℕ) × (a + k ≡ p.0) × (slice_get (x ∷ xs) k ≡ Some p.1)) [
      | inl same ↦
          let none : a + 0 ≡ a = omega arith in
          (0, none ∙ ap (λ (q : ℕ × X). q.0) same, ap (λ (q : ℕ × X). Some q.1) same)
      | inr later ↦
          let rest = in_enumerate (a + 1) xs p later in
          let next : a + suc rest.0 ≡ a + 1 + rest.0 = omega arith in
          (suc rest.0, next ∙ rest.1, rest.2)
    ]

in_option : {X : Type 0} → (o : Option X) (x : X) → In x (option_to_list o) → o ≡ Some x
in_option None x there = absurd (in_nothing x there)
in_option (Some y) x there =
    elim (in_cons x y [] there) as (λ _. Some y ≡ Some x) [
      | inl same ↦ ap Some same
      | inr none ↦ absurd (in_nothing x none)
    ]

-- ---- the tasks of a design
-- what of an item is a task of the text
record IsTaskItem (d : DesignTree) (item : Item) : Type 0 where
  callee : Called
  is : option_and_then (λ at. option_and_then (task_called d at) item.index) (site d item.instance) ≡ Some callee

-- a task of the text, as a call runs it
abbrev called_as : DesignTree → Site → ℕ → TaskTree → Called
called_as d at k task = record {
  scope = record { instance = at.number; body = task_body k };
  params = filter_map
      (λ p.
      slot_cell d (record { instance = at.number; body = task_body k }) at (task_frame d.spec at.template task)
      (param_slot p))
      task.params;
  body = task.body;
}

-- a task of a template, of an instance of that template
task_item : (d : DesignTree) (i k : ℕ) (node : InstanceNode) (t : TemplateTree) (task : TaskTree) (item : Item) →
    slice_get d.instances i ≡ Some node → slice_get d.spec.templates node.template ≡ Some t →
    slice_get t.tasks k ≡ Some task → item.instance ≡ i → item.index ≡ Some k → IsTaskItem d item
task_item d i k node t task item instance template found is_instance is_index = record {
  callee = called_as d (record { number = i; node = node; template = t }) k task;
  is =
      ap (λ (o : Option Site). option_and_then (λ at. option_and_then (task_called d at) item.index) o) at
      ∙ ap (λ (o : Option ℕ). option_and_then (task_called d (record { number = i; node = node; template = t })) o)
      is_index
      ∙ ap (option_map (called_as d (record { number = i; node = node; template = t }) k)) found;
}
  where
    at : site d item.instance ≡ Some (record { number = i; node = node; template = t })
    at =
        ap (site d) is_instance
        ∙ ap (λ (o : Option InstanceNode). option_and_then (λ (n : InstanceNode).
        option_map (λ (u : TemplateTree). record { number = i; node = n; template = u })
        (slice_get d.spec.templates n.template)) o) instance
        ∙ ap (option_map (λ (u : TemplateTree). record { number = i; node = node; template = u })) template

-- each item of a design's tasks is a task of its text
item_known : (d : DesignTree) → IsDesign d → (item : Item) → In item d.tasks → IsTaskItem d item
item_known d is item there =
    let from = in_flat_map
    (instance_items (λ t. t.tasks) (λ (k : TaskTree). is_controllable k.kind) (λ (k : TaskTree). k.name) d.spec)
    (enumerate_from 0 d.instances) item (subst (λ (items : List Item). In item items) is.tasks there) in
    let node = in_enumerate 0 d.instances from.one from.there in
    let within = in_flat_map
    (λ (t : TemplateTree). filter_map (λ (x : ℕ × TaskTree). then_some (is_controllable x.1.kind) (record {
      path = member_path from.one.1.path x.1.name.text;
      instance = from.one.0;
      index = Some x.0;
    })) (enumerate_from 0 t.tasks)) (template_of d.spec from.one.1) item from.gives in
    let template = in_option (slice_get d.spec.templates from.one.1.template) within.one within.there in
    let kept = in_filter_map
    (λ (x : ℕ × TaskTree). then_some (is_controllable x.1.kind) (record {
      path = member_path from.one.1.path x.1.name.text;
      instance = from.one.0;
      index = Some x.0;
    })) (enumerate_from 0 within.one.tasks) item within.gives in
    let task = in_enumerate 0 within.one.tasks kept.one kept.there in
    let first : node.0 ≡ from.one.0 = let start : 0 + node.0 ≡ node.0 = omega arith in sym start ∙ node.1 in
    let second : task.0 ≡ kept.one.0 = let start : 0 + task.0 ≡ task.0 = omega arith in sym start ∙ task.1 in
    let same = counted (is_controllable kept.one.1.kind) (record {
      path = member_path from.one.1.path kept.one.1.name.text;
      instance = from.one.0;
      index = Some kept.one.0;
    }) item kept.gives in
    task_item d from.one.0 kept.one.0 from.one.1 within.one kept.one.1 item
    (ap (slice_get d.instances) (sym first) ∙ node.2) template (ap (slice_get within.one.tasks) (sym second) ∙ task.2)
    (ap (λ (x : Item). x.instance) (sym same)) (ap (λ (x : Item). x.index) (sym same))
  where
    counted : (test : Bool) (x y : Item) → then_some test x ≡ Some y → x ≡ y
    counted true x y is = cc
    counted false x y is = cc

-- each controllable task of a design is one of its text
pub has_tasks : (d : DesignTree) → IsDesign d → (n : ℕ) → n < length d.tasks →
    (callee : Called) × (task_of d n ≡ Some callee)
has_tasks d is n below = of (slice_get d.tasks n) refl
  where
    past : (items : List Item) (k : ℕ) → k < length items → slice_get items k ≡ None → ⊥
    past [] k inside none = omega arith
    past (x ∷ xs) zero inside none = cc
    past (x ∷ xs) (suc k) inside none = past xs k (omega arith) none

    of : (o : Option Item) → slice_get d.tasks n ≡ o → (callee : Called) × (task_of d n ≡ Some callee)
    of None none = absurd (past d.tasks n below none)
    of (Some item) found =
        let known = item_known d is item (n, found) in (
          known.callee,
          ap (λ (o : Option Item).
              option_and_then (λ item. option_and_then (λ at. option_and_then (task_called d at) item.index)
              (site d item.instance)) o) found ∙ known.is,
        )
