-- The sizes of templates, found along an order of them, are what is asked of them.
use Rattle.std.proofs.Common.{◌≡◌, ℕ, zero, suc, ◌+◌, ◌^◌, ◌<◌, ◌≤◌, Option, None, Some, List, [], ◌∷◌, length, map, get_or, slice_get, refl, sym, ap, ◌∙◌, arith}
use Rattle.std.specs.Prelude.{codes, sum_by, unwrap_or}
use Rattle.std.specs.Option.{option_map, option_map_or}
use Rattle.std.specs.List.{filter_map, cons_option}
use Rattle.std.proofs.lemmas.List.Sums.{sum_by-cons}
use Rattle.std.proofs.lemmas.Option.{slice_get-get_or, slice_get_within}
use Rattle.tm_syntax.specs.Tree.{InstanceTree, TemplateTree, SpecTree}
use Rattle.tm_syntax.specs.Scopes.Names.{is_spelled, template_number}
use Rattle.tm_syntax.specs.Counts.Instances.{count_instances, instance_templates}
use Rattle.tm_scope.proofs.Positions.{position-below}
use Rattle.tm_syntax.specs.declared.fault.Quantity.TheVariants as quantity
use Rattle.tm_limits.specs.Shares.{combination_of}
use Rattle.tm_limits.specs.Amount.{capped}
use Rattle.tm_limits.specs.Orders.{targets}
use Rattle.tm_limits.specs.Templates.{held_numbers}
use Rattle.tm_limits.specs.TemplateOrders.{AreOrdered}
use Rattle.tm_limits.specs.Totals.{over}
use Rattle.tm_limits.proofs.TemplateGraphs.{length-mapped, targets_held}
use Rattle.tm_limits.proofs.TemplateTotals.{whole_of_main}
use Rattle.tm_limits.proofs.TotalSteps.{whole, whole_of}
use Rattle.tm_inst.specs.Instances.{AreSizes, held_size}
use Rattle.tm_inst.specs.Inner.Sizes.{HasSizes}

-- a count that is told below its greatest number is the count
exact : (n m : ℕ) → n ≡ capped m → n < 2 ^ 32 → m ≡ n
exact n m told below = omega arith

-- a small count is told as it is
small : (n m : ℕ) → n ≡ capped m → m < 2 ^ 32 → n ≡ m
small n m told below = omega arith

-- counts of one each are as many as there are
over_ones : (ts : List TemplateTree) → over (combination_of quantity.Instances) (map (λ (t : TemplateTree). 1) ts)
    ≡ length ts
over_ones [] = refl
over_ones (t ∷ ts) = let rest = over_ones ts in omega arith

-- what is there is no number beyond
there : (ts : List TemplateTree) (k : ℕ) (t : TemplateTree) → slice_get ts k ≡ Some t → k < length ts
there ts k t is = slice_get_within ts k t is

-- a template counts one, and what is none counts nothing
abbrev one_of : List TemplateTree → ℕ → ℕ
one_of ts n = option_map_or (λ (t : TemplateTree). 1) (slice_get ts n) 0

one_there : (ts : List TemplateTree) (k : ℕ) → k < length ts → one_of ts k ≡ 1
one_there [] k below = absurd (omega arith)
one_there (t ∷ ts) zero below = refl
one_there (t ∷ ts) (suc k) below = one_there ts k (omega arith)

module _ (spec : SpecTree) (graph : List (List ℕ)) (order sizes : List ℕ) (ordered : AreOrdered spec graph order)
    (sized : HasSizes graph order sizes) where
  abbrev one : ℕ → ℕ
  one = one_of spec.templates

  as_many : length graph ≡ length spec.templates
  as_many = ap length ordered.graph_is ∙ length-mapped (held_numbers spec) spec.templates

  ones : (k : ℕ) → k < length graph → one k ≡ 1
  ones k within = one_there spec.templates k (omega (arith, as_many))

  -- how many instances one of a template is, with all below it
  abbrev size : ℕ → ℕ
  size n = whole (combination_of quantity.Instances) graph order ordered.ordered one n

  size_told : (n : ℕ) → n < length spec.templates → get_or sizes n 0 ≡ capped (size n)
  size_told n within =
      let place = ordered.covers n (omega (arith, as_many)) in sized.each one ones place.0 n place.1

  -- the instances of a text are as many as `main` is with all below it
  pub main_small : (main : ℕ) → template_number spec (codes "main") ≡ Some main → count_instances spec ≤ 64 →
      get_or sizes main 0 ≤ 64
  main_small main named few =
      let within = position-below (λ t. is_spelled (codes "main") t.name) spec.templates main named in
      let told = size_told main within in
      let all = whole_of_main spec (combination_of quantity.Instances) (λ (t : TemplateTree). 1) graph order main
      ordered named
      ∙ over_ones (instance_templates spec) in
      omega (arith, told, all)

  -- where instances are few, each is as large as it is told
  held_told : (is : List InstanceTree) →
      over (combination_of quantity.Instances) (map size (filter_map
      (λ (i : InstanceTree). template_number spec i.template.text) is)) < 2 ^ 32 →
      over (combination_of quantity.Instances) (map size (filter_map
      (λ (i : InstanceTree). template_number spec i.template.text) is))
      ≡ sum_by (held_size spec sizes) is
  held_told [] below = refl
  held_told (i ∷ is) below = by (template_number spec i.template.text) refl below (held_told is)
    where
      by : (o : Option ℕ) → template_number spec i.template.text ≡ o →
          over (combination_of quantity.Instances) (map size (cons_option o (filter_map (λ (i : InstanceTree).
          template_number spec i.template.text) is))) < 2 ^ 32 →
          (over (combination_of quantity.Instances) (map size
          (filter_map (λ (i : InstanceTree). template_number spec i.template.text) is)) < 2 ^ 32 →
          over (combination_of quantity.Instances) (map size
          (filter_map (λ (i : InstanceTree). template_number spec i.template.text) is))
          ≡ sum_by (held_size spec sizes) is) →
          over (combination_of quantity.Instances) (map size (cons_option o (filter_map (λ (i : InstanceTree).
          template_number spec i.template.text) is)))
          ≡ sum_by (held_size spec sizes) (i ∷ is)
      by None named few later =
          let one = ap (λ o. option_map_or (λ k. get_or sizes k 0) o 0) named in
          let more = later few in
          omega (arith, one, more, sum_by-cons (held_size spec sizes) i is)
      by (Some k) named few later =
          let one = ap (λ o. option_map_or (λ k. get_or sizes k 0) o 0) named in
          let within = position-below (λ t. is_spelled i.template.text t.name) spec.templates k named in
          let told = small (get_or sizes k 0) (size k) (size_told k within) (omega arith) in
          let more = later (omega arith) in
          omega (arith, one, told, more, sum_by-cons (held_size spec sizes) i is)

  -- each size that is told below 2 ^ 32 is one more than what its template holds
  pub are_sizes : AreSizes spec sizes
  are_sizes k t is few =
      let within = there spec.templates k t is in
      let place = ordered.covers k (omega (arith, as_many)) in
      let told = exact (get_or sizes k 0) (size k) (size_told k within) few in
      let own = ones k (omega (arith, as_many)) in
      let held : targets graph k ≡ held_numbers spec t =
      ap (λ g. targets g k) ordered.graph_is ∙ targets_held spec k
      ∙ ap (λ o. unwrap_or (option_map (held_numbers spec) o) []) is in
      let parts = whole_of (combination_of quantity.Instances) graph order ordered.ordered one place.0 k place.1
      (slice_get_within order place.0 k place.1) in
      let below = ap (λ ns. over (combination_of quantity.Instances) (map size ns)) held in
      let all = held_told t.instances (omega (arith, told, own, parts, below)) in
      let long = sized.many in
      slice_get-get_or sizes k 0 (omega (arith, long, as_many))
      ∙ ap Some (sym told ∙ parts ∙ (λ j. own j + below j) ∙ ap (λ n. 1 + n) all)
