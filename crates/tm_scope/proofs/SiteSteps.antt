-- The steps of a walk along a path, from one instance to the next.
use Rattle.std.proofs.Common.{◌≡◌, ℕ, suc, ◌-◌, ◌<◌, ◌≤◌, Option, None, Some, List, [], ◌∷◌, ◌++◌, length, drop, get_or, map, position, slice_get, refl, sym, ap, ◌∙◌, arith, length-drop, drop-cons}
use Rattle.std.proofs.lemmas.Option.{slice_get-map}
use Rattle.std.specs.List.{filter_map, cons_option}
use Rattle.std.specs.Option.{option_map, option_and_then, option_or, option_to_list}
use Rattle.tm_syntax.specs.declared.design.Instance.{Instance}
use Rattle.tm_syntax.specs.declared.tree.Ident.{Ident}
use Rattle.tm_syntax.specs.declared.tree.Template.{Template}
use Rattle.tm_syntax.specs.Tree.{TemplateTree}
use Rattle.tm_syntax.specs.Tree.View.{spec_tree, template_tree, instance_tree}
use Rattle.tm_syntax.specs.Scopes.Names.{is_spelled}
use Rattle.tm_syntax.specs.Design.{DesignTree, InstanceNode, instance_node, neighbor}
use Rattle.tm_syntax.specs.Design.Scope.{Site, site, site_along}
use Rattle.tm_scope.specs.Instances.{InstanceTables, bare_design}
use Rattle.tm_scope.proofs.FirstNames.{option_map-option_map}
use Rattle.tm_scope.proofs.Positions.{position-map}

-- the first that one of two indices leads to
first_of_two : (f g : ℕ → Option ℕ) (a b : Option ℕ) →
    slice_get (filter_map f (option_to_list a) ++ filter_map g (option_to_list b)) 0
    ≡ option_or (option_and_then f a) (option_and_then g b)
first_of_two f g (Some k) b = by (f k)
  where
    second : (b : Option ℕ) → slice_get (filter_map g (option_to_list b)) 0 ≡ option_and_then g b
    second None = refl
    second (Some j) = at (g j)
      where
        at : (o : Option ℕ) → slice_get (cons_option o []) 0 ≡ o
        at None = refl
        at (Some x) = refl

    by : (o : Option ℕ) → slice_get (cons_option o [] ++ filter_map g (option_to_list b)) 0
        ≡ option_or o (option_and_then g b)
    by None = second b
    by (Some x) = refl
first_of_two f g None None = refl
first_of_two f g None (Some j) = at (g j)
  where
    at : (o : Option ℕ) → slice_get (cons_option o []) 0 ≡ o
    at None = refl
    at (Some x) = refl

-- what a name of an instance stands for, by the first positions
pub neighbor-indices : (node : InstanceNode) (t : Template) (name : List ℕ) →
    neighbor node (template_tree t) name
    ≡ option_or
    (option_and_then (slice_get node.children) (position (λ i. is_spelled name i.name) t.instances.items))
    (option_and_then (slice_get node.ports) (position (λ p. is_spelled name p.name) t.ports.items))
neighbor-indices node t name =
    first_of_two (λ k. slice_get node.children k) (λ k. slice_get node.ports k)
    (position (λ i. is_spelled name i.name) (map instance_tree t.instances.items))
    (position (λ p. is_spelled name p.name) t.ports.items)
    ∙ ap (λ o. option_or (option_and_then (slice_get node.children) o)
    (option_and_then (slice_get node.ports) (position (λ p. is_spelled name p.name) t.ports.items)))
    (position-map (λ i. is_spelled name i.name) instance_tree t.instances.items)

-- a site of its parts
abbrev made_site : ℕ → InstanceNode → TemplateTree → Site
made_site n node t = record { number = n; node = node; template = t }

-- the instance of a number
module _ (x : InstanceTables) (n : ℕ) where
  pub no_instance : slice_get x.instances n ≡ None → site (bare_design x) n ≡ None
  no_instance absent =
      ap (option_and_then (λ node. option_map (made_site n node)
      (slice_get (spec_tree x.spec).templates node.template)))
      (slice_get-map instance_node x.instances n ∙ ap (option_map instance_node) absent)

  module _ (i : Instance) (at : slice_get x.instances n ≡ Some i) where
    in_template : site (bare_design x) n
        ≡ option_map (λ (t : Template). made_site n (instance_node i) (template_tree t))
        (slice_get x.spec.templates.items i.template)
    in_template =
        ap (option_and_then (λ node. option_map (made_site n node)
        (slice_get (spec_tree x.spec).templates node.template)))
        (slice_get-map instance_node x.instances n ∙ ap (option_map instance_node) at)
        ∙ ap (option_map (made_site n (instance_node i)))
        (slice_get-map template_tree x.spec.templates.items i.template)
        ∙ option_map-option_map template_tree (made_site n (instance_node i))
        (slice_get x.spec.templates.items i.template)

    pub neighbor-in_template : (name : List ℕ) →
        option_and_then (λ (s : Site). neighbor s.node s.template name) (site (bare_design x) n)
        ≡ option_and_then (λ (t : Template). neighbor (instance_node i) (template_tree t) name)
        (slice_get x.spec.templates.items i.template)
    neighbor-in_template name =
        ap (option_and_then (λ (s : Site). neighbor s.node s.template name)) in_template
        ∙ by (slice_get x.spec.templates.items i.template)
      where
        by : (o : Option Template) →
            option_and_then (λ (s : Site). neighbor s.node s.template name)
            (option_map (λ (t : Template). made_site n (instance_node i) (template_tree t)) o)
            ≡ option_and_then (λ (t : Template). neighbor (instance_node i) (template_tree t) name) o
        by None = refl
        by (Some t) = refl

    pub no_template : slice_get x.spec.templates.items i.template ≡ None → site (bare_design x) n ≡ None
    no_template absent =
        in_template ∙ ap (option_map (λ (t : Template). made_site n (instance_node i) (template_tree t))) absent

    pub site-read : (t : Template) → slice_get x.spec.templates.items i.template ≡ Some t →
        site (bare_design x) n ≡ Some (record { number = n; node = instance_node i; template = template_tree t })
    site-read t there =
        in_template ∙ ap (option_map (λ (t : Template). made_site n (instance_node i) (template_tree t))) there

module _ (d : DesignTree) where
  along-cons : (s : Site) (name : Ident) (rest : List Ident) → 0 < length rest →
      site_along d s (name ∷ rest)
      ≡ option_and_then (λ n. option_and_then (λ s. site_along d s rest) (site d n))
      (neighbor s.node s.template name.text)
  along-cons s name [] later = absurd (omega arith)
  along-cons s name (next ∷ names) later = refl

  -- one name further along a path, where another one stands behind it
  pub site_along-step : (at : ℕ) (path : List Ident) (next : ℕ) (name : Ident) → 0 < next → next < length path →
      name ≡ get_or path (next - 1) name →
      option_and_then (λ s. site_along d s (drop (next - 1) path)) (site d at)
      ≡ option_and_then (λ n. option_and_then (λ s. site_along d s (drop next path)) (site d n))
      (option_and_then (λ s. neighbor s.node s.template name.text) (site d at))
  site_along-step at path next name later within is = by (site d at)
    where
      by : (o : Option Site) →
          option_and_then (λ s. site_along d s (drop (next - 1) path)) o
          ≡ option_and_then (λ n. option_and_then (λ s. site_along d s (drop next path)) (site d n))
          (option_and_then (λ s. neighbor s.node s.template name.text) o)
      by None = refl
      by (Some s) =
          let before : next - 1 < length path = omega arith in
          let behind : suc (next - 1) ≡ next = omega arith in
          let left : 0 < length (drop next path) = simp length-drop (omega arith) in
          ap (site_along d s) (drop-cons path (next - 1) name before ∙ (λ j. sym is j ∷ drop (behind j) path))
          ∙ along-cons s name (drop next path) left

  -- at the last name, or without one, a path has ended
  along-end : (s : Site) (rest : List Ident) → length rest ≤ 1 → site_along d s rest ≡ Some s
  along-end s [] short = refl
  along-end s (name ∷ []) short = refl
  along-end s (name ∷ next ∷ names) short = absurd (omega arith)

  pub site_along-end : (at : ℕ) (path : List Ident) (next : ℕ) → length path ≤ next →
      option_and_then (λ s. site_along d s (drop (next - 1) path)) (site d at) ≡ site d at
  site_along-end at path next over = by (site d at)
    where
      by : (o : Option Site) → option_and_then (λ s. site_along d s (drop (next - 1) path)) o ≡ o
      by None = refl
      by (Some s) = along-end s (drop (next - 1) path) (simp length-drop (omega arith))

-- where a path leads depends on the text and the instances alone
module _ (d e : DesignTree) (same_text : d.spec ≡ e.spec) (same_instances : d.instances ≡ e.instances) where
  pub same_site : (n : ℕ) → site d n ≡ site e n
  same_site n = λ i.
      option_and_then (λ node. option_map (λ t. record { number = n; node = node; template = t })
      (slice_get (same_text i).templates node.template)) (slice_get (same_instances i) n)

  pub onward : (rest : List Ident) → ((at : Site) → site_along d at rest ≡ site_along e at rest) → (o : Option Site) →
      option_and_then (λ s. site_along d s rest) o ≡ option_and_then (λ s. site_along e s rest) o
  onward rest same None = refl
  onward rest same (Some s) = same s

  from_number : (rest : List Ident) → ((at : Site) → site_along d at rest ≡ site_along e at rest) → (o : Option ℕ) →
      option_and_then (λ n. option_and_then (λ s. site_along d s rest) (site d n)) o
      ≡ option_and_then (λ n. option_and_then (λ s. site_along e s rest) (site e n)) o
  from_number rest same None = refl
  from_number rest same (Some n) =
      ap (option_and_then (λ s. site_along d s rest)) (same_site n) ∙ onward rest same (site e n)

  pub same_site_along : (at : Site) (path : List Ident) → site_along d at path ≡ site_along e at path
  same_site_along at [] = refl
  same_site_along at (name ∷ []) = refl
  same_site_along at (name ∷ next ∷ names) =
      from_number (next ∷ names) (λ s. same_site_along s (next ∷ names)) (neighbor at.node at.template name.text)
