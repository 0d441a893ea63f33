-- The instances of a text, counted along the graph of templates.
use Rattle.std.proofs.Common.{◌≡◌, ℕ, zero, suc, ◌<◌, ◌≤◌, Option, None, Some, List, [], ◌∷◌, ◌++◌, length, map, get_or, slice_get, append_assoc, refl, sym, ap, ◌∙◌, arith}
use Rattle.std.specs.Prelude.{codes, unwrap_or}
use Rattle.std.specs.Option.{option_map, option_map_or, option_and_then, option_to_list}
use Rattle.std.specs.List.{filter_map, flat_map, cons_option}
use Rattle.std.proofs.lemmas.Option.{none-some, slice_get_within}
use Rattle.tm_syntax.specs.Tree.{InstanceTree, TemplateTree, SpecTree}
use Rattle.tm_syntax.specs.Scopes.Names.{is_spelled, template_number, template_named}
use Rattle.tm_syntax.specs.Counts.Instances.{templates_below, instance_templates}
use Rattle.tm_scope.proofs.Positions.{position-below, find-position}
use Rattle.tm_limits.specs.declared.totals.Combination.{Combination}
use Rattle.tm_limits.specs.Amount.{capped}
use Rattle.tm_limits.specs.TemplateOrders.{AreOrdered}
use Rattle.tm_limits.specs.Orders.{targets}
use Rattle.tm_limits.specs.Templates.{held_numbers, holdings}
use Rattle.tm_limits.specs.Totals.{combined, over, nodes_below}
use Rattle.tm_limits.proofs.TemplateGraphs.{length-mapped, targets_held}
use Rattle.tm_limits.proofs.TotalSteps.{combined-none, settled}

flat_append : {X Y : Type 0} (f : X → List Y) (xs ys : List X) →
    flat_map f (xs ++ ys) ≡ flat_map f xs ++ flat_map f ys
flat_append f [] ys = refl
flat_append f (x ∷ xs) ys =
    ap (λ zs. f x ++ zs) (flat_append f xs ys) ∙ sym (append_assoc (f x) (flat_map f xs) (flat_map f ys))

-- the count of a number is that of its template
pub counts_read : (count : TemplateTree → ℕ) (ts : List TemplateTree) (k : ℕ) →
    get_or (map (λ t. capped (count t)) ts) k 0 ≡ capped (option_map_or count (slice_get ts k) 0)
counts_read count [] zero = omega arith
counts_read count [] (suc k) = omega arith
counts_read count (t ∷ ts) zero = refl
counts_read count (t ∷ ts) (suc k) = counts_read count ts k

within_some : {X : Type 0} (xs : List X) (k : ℕ) → k < length xs → slice_get xs k ≡ None → ⊥
within_some [] k below e = omega arith
within_some (x ∷ xs) zero below e = none-some x (sym e)
within_some (x ∷ xs) (suc k) below e = within_some xs k (omega arith) e

-- the templates of some numbers
abbrev pub at_numbers : SpecTree → List ℕ → List TemplateTree
at_numbers spec ns = flat_map (λ k. option_to_list (slice_get spec.templates k)) ns

module _ (spec : SpecTree) where
  at_append : (xs ys : List ℕ) → at_numbers spec (xs ++ ys) ≡ at_numbers spec xs ++ at_numbers spec ys
  at_append xs ys = flat_append (λ k. option_to_list (slice_get spec.templates k)) xs ys

  -- the instances below some instances of a template, given those below each template
  forest_below : (d : ℕ) → ((k : ℕ) (u : TemplateTree) → slice_get spec.templates k ≡ Some u →
      at_numbers spec (nodes_below d (holdings spec) k) ≡ templates_below d spec u) → (is : List InstanceTree) →
      at_numbers spec (flat_map (nodes_below d (holdings spec))
      (filter_map (λ (i : InstanceTree). template_number spec i.template.text) is))
      ≡ flat_map (λ (i : InstanceTree).
      option_map_or (templates_below d spec) (template_named spec i.template.text) []) is
  forest_below d below [] = refl
  forest_below d below (i ∷ is) = by (template_number spec i.template.text) refl (forest_below d below is)
    where
      named : (o : Option ℕ) → template_number spec i.template.text ≡ o →
          template_named spec i.template.text ≡ option_and_then (slice_get spec.templates) o
      named o e =
          find-position (λ t. is_spelled i.template.text t.name) spec.templates
          ∙ ap (option_and_then (slice_get spec.templates)) e

      of_number : (k : ℕ) → (o : Option TemplateTree) → slice_get spec.templates k ≡ o → k < length spec.templates →
          at_numbers spec (nodes_below d (holdings spec) k) ≡ option_map_or (templates_below d spec) o []
      of_number k None e within =
          absurd (within_some spec.templates k within e)
      of_number k (Some u) e within = below k u e

      by : (o : Option ℕ) → template_number spec i.template.text ≡ o →
          at_numbers spec (flat_map (nodes_below d (holdings spec))
          (filter_map (λ (i : InstanceTree). template_number spec i.template.text) is))
          ≡ flat_map (λ (i : InstanceTree).
          option_map_or (templates_below d spec) (template_named spec i.template.text) []) is →
          at_numbers spec (flat_map (nodes_below d (holdings spec))
          (cons_option o (filter_map (λ (i : InstanceTree). template_number spec i.template.text) is)))
          ≡ option_map_or (templates_below d spec) (template_named spec i.template.text) []
          ++ flat_map (λ (i : InstanceTree).
          option_map_or (templates_below d spec) (template_named spec i.template.text) []) is
      by None e rest =
          rest ∙ ap (λ o. option_map_or (templates_below d spec) o [] ++ flat_map (λ (i : InstanceTree).
          option_map_or (templates_below d spec) (template_named spec i.template.text) []) is) (sym (named None e))
      by (Some k) e rest =
          at_append (nodes_below d (holdings spec) k) (flat_map (nodes_below d (holdings spec))
          (filter_map (λ (i : InstanceTree). template_number spec i.template.text) is))
          ∙ (λ j. of_number k (slice_get spec.templates k) refl
          (position-below (λ t. is_spelled i.template.text t.name) spec.templates k e) j ++ rest j)
          ∙ ap (λ o. option_map_or (templates_below d spec) o [] ++ flat_map (λ (i : InstanceTree).
          option_map_or (templates_below d spec) (template_named spec i.template.text) []) is)
          (sym (named (Some k) e))

  -- the templates of the nodes below a template's number are those below the template
  pub instances_below : (d k : ℕ) (t : TemplateTree) → slice_get spec.templates k ≡ Some t →
      at_numbers spec (nodes_below d (holdings spec) k) ≡ templates_below d spec t
  instances_below zero k t is = refl
  instances_below (suc d) k t is =
      let held : targets (holdings spec) k ≡ held_numbers spec t =
      targets_held spec k ∙ ap (λ o. unwrap_or (option_map (held_numbers spec) o) []) is in
      (λ j. option_to_list (is j) ++ at_numbers spec (flat_map (nodes_below d (holdings spec)) (held j)))
      ∙ ap (λ ts. t ∷ ts) (forest_below d (instances_below d) t.instances)

  -- counts of numbers are those of their templates
  pub over_numbers : (c : Combination) (count : TemplateTree → ℕ) (ns : List ℕ) →
      over c (map (λ k. option_map_or count (slice_get spec.templates k) 0) ns)
      ≡ over c (map count (at_numbers spec ns))
  over_numbers c count [] = refl
  over_numbers c count (n ∷ ns) = by (slice_get spec.templates n) (over_numbers c count ns)
    where
      by : (o : Option TemplateTree) →
          over c (map (λ k. option_map_or count (slice_get spec.templates k) 0) ns)
          ≡ over c (map count (at_numbers spec ns)) →
          combined c (option_map_or count o 0)
          (over c (map (λ k. option_map_or count (slice_get spec.templates k) 0) ns))
          ≡ over c (map count (option_to_list o ++ at_numbers spec ns))
      by None e = combined-none c (over c (map (λ k. option_map_or count (slice_get spec.templates k) 0) ns)) ∙ e
      by (Some t) e = ap (combined c (count t)) e

  -- the template `main` is one of the order
  pub main_stands : (graph : List (List ℕ)) (order : List ℕ) (k : ℕ) → AreOrdered spec graph order →
      template_number spec (codes "main") ≡ Some k → (j : ℕ) × (slice_get order j ≡ Some k)
  main_stands graph order k is main =
      let within = position-below (λ t. is_spelled (codes "main") t.name) spec.templates k main in
      let nodes : length (holdings spec) ≡ length spec.templates = length-mapped (held_numbers spec) spec.templates in
      let count_is : length graph ≡ length spec.templates = ap length is.graph_is ∙ nodes in
      is.covers k (omega (arith, within, count_is))

  -- what all instances count, by the number of `main`
  pub whole_of_main : (c : Combination) (count : TemplateTree → ℕ) (graph : List (List ℕ)) (order : List ℕ) (k : ℕ) →
      AreOrdered spec graph order → template_number spec (codes "main") ≡ Some k →
      over c (map (λ n. option_map_or count (slice_get spec.templates n) 0) (nodes_below (length order) graph k))
      ≡ over c (map count (instance_templates spec))
  whole_of_main c count graph order k is main =
      let within = position-below (λ t. is_spelled (codes "main") t.name) spec.templates k main in
      let nodes : length (holdings spec) ≡ length spec.templates = length-mapped (held_numbers spec) spec.templates in
      let count_is : length graph ≡ length spec.templates = ap length is.graph_is ∙ nodes in
      let place = main_stands graph order k is main in
      let before : place.0 < length order = slice_get_within order place.0 k place.1 in
      let short : length order ≤ length graph = is.short in
      ap (λ ns. over c (map (λ n. option_map_or count (slice_get spec.templates n) 0) ns))
      (settled c graph order is.ordered (length order) place.0 (length order) (length spec.templates) k (omega arith)
      (omega arith) (omega arith) place.1
      ∙ ap (λ g. nodes_below (length spec.templates) g k) is.graph_is)
      ∙ over_numbers c count (nodes_below (length spec.templates) (holdings spec) k)
      ∙ ap (λ ts. over c (map count ts)) (of_main (slice_get spec.templates k) refl within)
    where
      named : template_named spec (codes "main") ≡ slice_get spec.templates k
      named =
          find-position (λ t. is_spelled (codes "main") t.name) spec.templates
          ∙ ap (option_and_then (slice_get spec.templates)) main

      of_main : (o : Option TemplateTree) → slice_get spec.templates k ≡ o → k < length spec.templates →
          at_numbers spec (nodes_below (length spec.templates) (holdings spec) k) ≡ instance_templates spec
      of_main None e within =
          absurd (within_some spec.templates k within e)
      of_main (Some t) e within =
          instances_below (length spec.templates) k t e
          ∙ ap (λ o. option_map_or (templates_below (length spec.templates) spec) o []) (sym (named ∙ e))

  -- without a template `main` there is no instance
  pub none_of_main : (c : Combination) (count : TemplateTree → ℕ) → template_number spec (codes "main") ≡ None →
      0 ≡ over c (map count (instance_templates spec))
  none_of_main c count main =
      ap (λ o. over c (map count (option_map_or (templates_below (length spec.templates) spec) o [])))
      (sym (find-position (λ t. is_spelled (codes "main") t.name) spec.templates
      ∙ ap (option_and_then (slice_get spec.templates)) main))
