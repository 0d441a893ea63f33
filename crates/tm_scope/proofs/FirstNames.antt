-- The first of the instances and ports that has a name.
use Rattle.std.proofs.Common.{◌≡◌, ℕ, Bool, true, false, cond, Option, None, Some, List, [], ◌∷◌, ◌++◌, map, slice_get, position, find, refl, ap, ◌∙◌}
use Rattle.std.specs.Bool.{then_some}
use Rattle.std.specs.Option.{option_map, option_and_then, option_or}
use Rattle.std.specs.List.{filter_map, cons_option}
use Rattle.tm_syntax.specs.declared.tree.InstanceDef.{InstanceDef}
use Rattle.tm_syntax.specs.declared.tree.Port.{Port}
use Rattle.tm_syntax.specs.declared.tree.Template.{Template}
use Rattle.tm_syntax.specs.Tree.View.{instance_tree, template_tree}
use Rattle.tm_syntax.specs.Scopes.Names.{is_spelled}
use Rattle.tm_syntax.specs.Scopes.Calls.{known_template}
use Rattle.tm_scope.proofs.Positions.{find-position}

-- the first that a filter keeps, before what stands behind the list
pub first-filter_map : {X Y : Type 0} (p : X → Bool) (h : X → Y) (xs : List X) (after : List Y) →
    slice_get (filter_map (λ x. then_some (p x) (h x)) xs ++ after) 0
    ≡ option_or (option_map h (find p xs)) (slice_get after 0)
first-filter_map p h [] after = refl
first-filter_map {X} {Y} p h (x ∷ xs) after = by (p x) (first-filter_map p h xs after)
  where
    by : (here : Bool) →
        slice_get (filter_map (λ x. then_some (p x) (h x)) xs ++ after) 0
        ≡ option_or (option_map h (find p xs)) (slice_get after 0) →
        slice_get (cons_option (then_some here (h x)) (filter_map (λ x. then_some (p x) (h x)) xs) ++ after) 0
        ≡ option_or (option_map h (cond here (Some x) (find p xs))) (slice_get after 0)
    by true rest = refl
    by false rest = rest

pub only-filter_map : {X Y : Type 0} (p : X → Bool) (h : X → Y) (xs : List X) →
    slice_get (filter_map (λ x. then_some (p x) (h x)) xs) 0 ≡ option_map h (find p xs)
only-filter_map p h [] = refl
only-filter_map p h (x ∷ xs) = by (p x) (only-filter_map p h xs)
  where
    by : (here : Bool) →
        slice_get (filter_map (λ x. then_some (p x) (h x)) xs) 0 ≡ option_map h (find p xs) →
        slice_get (cons_option (then_some here (h x)) (filter_map (λ x. then_some (p x) (h x)) xs)) 0
        ≡ option_map h (cond here (Some x) (find p xs))
    by true rest = refl
    by false rest = rest

pub find-map : {X Y : Type 0} (p : Y → Bool) (f : X → Y) (xs : List X) →
    find p (map f xs) ≡ option_map f (find (λ x. p (f x)) xs)
find-map p f [] = refl
find-map p f (x ∷ xs) = by (p (f x)) (find-map p f xs)
  where
    by : (here : Bool) → find p (map f xs) ≡ option_map f (find (λ x. p (f x)) xs) →
        cond here (Some (f x)) (find p (map f xs)) ≡ option_map f (cond here (Some x) (find (λ x. p (f x)) xs))
    by true rest = refl
    by false rest = rest

pub option_map-option_map : {X Y Z : Type 0} (f : X → Y) (g : Y → Z) (o : Option X) →
    option_map g (option_map f o) ≡ option_map (λ x. g (f x)) o
option_map-option_map f g None = refl
option_map-option_map f g (Some x) = refl

-- by the first positions
pub known_template-positions : (t : Template) (name : List ℕ) →
    known_template (template_tree t) name
    ≡ option_or
    (option_map (λ i. i.template)
    (option_and_then (slice_get t.instances.items) (position (λ i. is_spelled name i.name) t.instances.items)))
    (option_map (λ p. p.template)
    (option_and_then (slice_get t.ports.items) (position (λ p. is_spelled name p.name) t.ports.items)))
known_template-positions t name =
    first-filter_map (λ i. is_spelled name i.name) (λ i. i.template) (map instance_tree t.instances.items)
    (filter_map (λ p. then_some (is_spelled name p.name) p.template) t.ports.items)
    ∙ (λ j. option_or (instances j) (ports j))
  where
    instances : option_map (λ i. i.template) (find (λ i. is_spelled name i.name) (map instance_tree t.instances.items))
        ≡ option_map (λ i. i.template)
        (option_and_then (slice_get t.instances.items) (position (λ i. is_spelled name i.name) t.instances.items))
    instances =
        ap (option_map (λ i. i.template)) (find-map (λ i. is_spelled name i.name) instance_tree t.instances.items)
        ∙ option_map-option_map instance_tree (λ i. i.template) (find (λ i. is_spelled name i.name) t.instances.items)
        ∙ ap (option_map (λ i. i.template)) (find-position (λ i. is_spelled name i.name) t.instances.items)

    ports : slice_get (filter_map (λ p. then_some (is_spelled name p.name) p.template) t.ports.items) 0
        ≡ option_map (λ p. p.template)
        (option_and_then (slice_get t.ports.items) (position (λ p. is_spelled name p.name) t.ports.items))
    ports =
        only-filter_map (λ p. is_spelled name p.name) (λ p. p.template) t.ports.items
        ∙ ap (option_map (λ p. p.template)) (find-position (λ p. is_spelled name p.name) t.ports.items)

module _ (t : Template) (name : List ℕ) where
  abbrev pub instance_index : Option ℕ
  instance_index = position (λ i. is_spelled name i.name) t.instances.items

  abbrev pub port_index : Option ℕ
  port_index = position (λ p. is_spelled name p.name) t.ports.items

  known_at : (i p : Option ℕ) → instance_index ≡ i → port_index ≡ p →
      known_template (template_tree t) name
      ≡ option_or (option_map (λ i. i.template) (option_and_then (slice_get t.instances.items) i))
      (option_map (λ p. p.template) (option_and_then (slice_get t.ports.items) p))
  known_at i p is_i is_p =
      known_template-positions t name
      ∙ (λ j. option_or (option_map (λ i. i.template) (option_and_then (slice_get t.instances.items) (is_i j)))
      (option_map (λ p. p.template) (option_and_then (slice_get t.ports.items) (is_p j))))

  pub known_at_instance : (i : ℕ) (item : InstanceDef) → instance_index ≡ Some i →
      slice_get t.instances.items i ≡ Some item → known_template (template_tree t) name ≡ Some item.template
  known_at_instance i item is at =
      known_at (Some i) port_index is refl
      ∙ ap (λ o. option_or (option_map (λ i. i.template) o)
      (option_map (λ p. p.template) (option_and_then (slice_get t.ports.items) port_index))) at

  pub known_at_port : (p : ℕ) (item : Port) → instance_index ≡ None → port_index ≡ Some p →
      slice_get t.ports.items p ≡ Some item → known_template (template_tree t) name ≡ Some item.template
  known_at_port p item none is at = known_at None (Some p) none is ∙ ap (option_map (λ p. p.template)) at

  pub known_nowhere : instance_index ≡ None → port_index ≡ None → known_template (template_tree t) name ≡ None
  known_nowhere none is = known_at None None none is
