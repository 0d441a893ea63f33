-- In the design of a text at no fault, paths lead to instances of the templates to which they lead in the text.
use Rattle.std.proofs.Common.{◌≡◌, ◌⊎◌, inl, inr, ℕ, zero, suc, ◌+◌, ◌<◌, ◌≤◌, Bool, Option, None, Some, List, [], ◌∷◌, ◌++◌, find, length, position, slice_get, refl, sym, ap, ◌∙◌, subst, arith}
use Rattle.std.specs.Prelude.{codes}
use Rattle.std.proofs.lemmas.Option.{none-some, same_Some, slice_get_within, slice_get-map}
use Rattle.std.specs.Bool.{then_some}
use Rattle.std.specs.List.{filter_map, cons_option}
use Rattle.std.specs.Option.{option_map, option_and_then, option_or, option_to_list}
use Rattle.tm_syntax.specs.declared.tree.Ident.{Ident}
use Rattle.tm_syntax.specs.declared.tree.Port.{Port}
use Rattle.tm_syntax.specs.Tree.{InstanceTree, TemplateTree}
use Rattle.tm_syntax.specs.Scopes.Names.{is_spelled, template_number, template_named, neighbor_template, template_along}
use Rattle.tm_syntax.specs.Design.{DesignTree, InstanceNode, neighbor, IsDeclared, IsSubtree, subtree, IsForest, none_left, one_more, AreInstances}
use Rattle.tm_syntax.specs.Design.Scope.{Site, site, site_along}
use Rattle.tm_syntax.specs.declared.fault.FaultKind.TheVariants as kind
use Rattle.tm_syntax.specs.Faults.{IsFree, IsSound}
use Rattle.tm_scope.proofs.FirstNames.{first-filter_map, only-filter_map}
use Rattle.tm_scope.proofs.Entries.{at-there, below_or_not, same_or_not}
use Rattle.tm_scope.proofs.Positions.{find-position, position-below}
use Rattle.tm_typing.proofs.Listed.{In, first_of, later_of, in_get, of_find}
use Rattle.tm_locations.specs.Locations.{LeadsByText}
use Rattle.tm_locations.proofs.TextArguments.{IsJoined, HasArguments, main-portless, has-arguments}

-- the first that one of two indices leads to
first-of-two : (f g : ℕ → Option ℕ) (a b : Option ℕ) →
    slice_get (filter_map f (option_to_list a) ++ filter_map g (option_to_list b)) 0
    ≡ option_or (option_and_then f a) (option_and_then g b)
first-of-two f g a b = by a
  where
    held : (o : Option ℕ) → slice_get (cons_option o []) 0 ≡ o
    held None = refl
    held (Some x) = refl

    second : (b : Option ℕ) → slice_get (filter_map g (option_to_list b)) 0 ≡ option_and_then g b
    second None = refl
    second (Some j) = held (g j)

    first : (o : Option ℕ) → slice_get (cons_option o [] ++ filter_map g (option_to_list b)) 0
        ≡ option_or o (option_and_then g b)
    first None = second b
    first (Some x) = refl

    by : (a : Option ℕ) → slice_get (filter_map f (option_to_list a) ++ filter_map g (option_to_list b)) 0
        ≡ option_or (option_and_then f a) (option_and_then g b)
    by None = second b
    by (Some k) = first (f k)

absent-below : {X : Type 0} (xs : List X) (k : ℕ) → k < length xs → slice_get xs k ≡ None → ⊥
absent-below xs k below none = let there = at-there xs k below in none-some there.0 (sym none ∙ there.1)

past : (at n : ℕ) → at ≤ n → (n ≡ at → ⊥) → (at < n) ⊎ (n ≤ at) → at + 1 ≤ n
past at n from other (inl less) = omega (arith, less)
past at n from other (inr more) = absurd (other (omega (arith, more, from)))

module _ (d : DesignTree) where
  -- the template of the instance of a number
  abbrev pub template_at : ℕ → Option TemplateTree
  template_at n = option_map (λ (s : Site). s.template) (site d n)

  -- it is that of the instance's own number
  template_at-node : (n : ℕ) (node : InstanceNode) → slice_get d.instances n ≡ Some node →
      template_at n ≡ slice_get d.spec.templates node.template
  template_at-node n node at =
      ap (λ o. option_map (λ (s : Site). s.template) (option_and_then (λ (node : InstanceNode). option_map
      (λ (t : TemplateTree). record { number = n; node = node; template = t })
      (slice_get d.spec.templates node.template)) o)) at
      ∙ by (slice_get d.spec.templates node.template)
    where
      by : (o : Option TemplateTree) →
          option_map (λ (s : Site). s.template) (option_map
          (λ (t : TemplateTree). record { number = n; node = node; template = t }) o) ≡ o
      by None = refl
      by (Some t) = refl

  -- each item of a list leads by its index to an instance of the template that it names
  abbrev pub LeadsInto : {X : Type 0} → (X → Ident) → List X → List ℕ → Type 0
  LeadsInto {X} name xs numbers =
      (k : ℕ) (x : X) → slice_get xs k ≡ Some x →
      (n : ℕ) × (slice_get numbers k ≡ Some n) × (template_at n ≡ template_named d.spec (name x).text)

  -- the instances and ports of an instance are of the templates that its own template names
  pub record FitsText (s : Site) : Type 0 where
    pub children : LeadsInto (λ (i : InstanceTree). i.template) s.template.instances s.node.children
    pub ports : LeadsInto (λ (p : Port). p.template) s.template.ports s.node.ports

  -- the first item that passes a test leads so
  first-leads : {X : Type 0} (name : X → Ident) (xs : List X) (numbers : List ℕ) → LeadsInto name xs numbers →
      (p : X → Bool) →
      ((position p xs ≡ None) × (find p xs ≡ None))
      ⊎ ((n : ℕ) × (x : X) × (option_and_then (slice_get numbers) (position p xs) ≡ Some n) × (find p xs ≡ Some x)
      × (template_at n ≡ template_named d.spec (name x).text))
  first-leads {X} name xs numbers leads p = by (position p xs) refl
    where
      of_item : (k : ℕ) → position p xs ≡ Some k → (o : Option X) → slice_get xs k ≡ o →
          ((position p xs ≡ None) × (find p xs ≡ None))
          ⊎ ((n : ℕ) × (x : X) × (option_and_then (slice_get numbers) (position p xs) ≡ Some n)
          × (find p xs ≡ Some x) × (template_at n ≡ template_named d.spec (name x).text))
      of_item k at None is = absurd (absent-below xs k (position-below p xs k at) is)
      of_item k at (Some x) is =
          let to = leads k x is in
          inr (
            to.0,
            x,
            ap (option_and_then (slice_get numbers)) at ∙ to.1,
            find-position p xs ∙ ap (option_and_then (slice_get xs)) at ∙ is,
            to.2,
          )

      by : (o : Option ℕ) → position p xs ≡ o →
          ((position p xs ≡ None) × (find p xs ≡ None))
          ⊎ ((n : ℕ) × (x : X) × (option_and_then (slice_get numbers) (position p xs) ≡ Some n)
          × (find p xs ≡ Some x) × (template_at n ≡ template_named d.spec (name x).text))
      by None at = inl (at, find-position p xs ∙ ap (option_and_then (slice_get xs)) at)
      by (Some k) at = of_item k at (slice_get xs k) refl

  module _ (s : Site) (name : List ℕ) where
    abbrev child : Option ℕ
    child = option_and_then (λ k. slice_get s.node.children k)
        (position (λ (i : InstanceTree). is_spelled name i.name) s.template.instances)

    abbrev port : Option ℕ
    port = option_and_then (λ k. slice_get s.node.ports k)
        (position (λ (p : Port). is_spelled name p.name) s.template.ports)

    abbrev instance_found : Option InstanceTree
    instance_found = find (λ (i : InstanceTree). is_spelled name i.name) s.template.instances

    abbrev port_found : Option Port
    port_found = find (λ (p : Port). is_spelled name p.name) s.template.ports

    abbrev Leading : Option ℕ → Option ℕ → Option InstanceTree → Option Port → Type 0
    Leading a b i p =
        option_and_then template_at (option_or a b)
        ≡ option_and_then (λ (known : Ident). template_named d.spec known.text)
        (option_or (option_map (λ (i : InstanceTree). i.template) i) (option_map (λ (p : Port). p.template) p))

    known : slice_get (filter_map (λ (i : InstanceTree). then_some (is_spelled name i.name) i.template)
        s.template.instances
        ++ filter_map (λ (p : Port). then_some (is_spelled name p.name) p.template) s.template.ports) 0
        ≡ option_or (option_map (λ (i : InstanceTree). i.template) instance_found)
        (option_map (λ (p : Port). p.template) port_found)
    known =
        first-filter_map (λ (i : InstanceTree). is_spelled name i.name) (λ (i : InstanceTree). i.template)
        s.template.instances
        (filter_map (λ (p : Port). then_some (is_spelled name p.name) p.template) s.template.ports)
        ∙ ap (option_or (option_map (λ (i : InstanceTree). i.template) instance_found))
        (only-filter_map (λ (p : Port). is_spelled name p.name) (λ (p : Port). p.template) s.template.ports)

    second : ((position (λ (p : Port). is_spelled name p.name) s.template.ports ≡ None) × (port_found ≡ None))
        ⊎ ((n : ℕ) × (x : Port) × (port ≡ Some n) × (port_found ≡ Some x)
        × (template_at n ≡ template_named d.spec x.template.text)) → Leading None port None port_found
    second (inl e) =
        let none : port ≡ None = ap (option_and_then (λ k. slice_get s.node.ports k)) e.0 in
        subst (λ a. Leading None a None port_found) (sym none)
        (subst (λ p. Leading None None None p) (sym e.1) refl)
    second (inr e) =
        subst (λ a. Leading None a None port_found) (sym e.2)
        (subst (λ p. Leading None (Some e.0) None p) (sym e.3) e.4)

    first : ((position (λ (i : InstanceTree). is_spelled name i.name) s.template.instances ≡ None)
        × (instance_found ≡ None))
        ⊎ ((n : ℕ) × (x : InstanceTree) × (child ≡ Some n) × (instance_found ≡ Some x)
        × (template_at n ≡ template_named d.spec x.template.text)) → Leading None port None port_found →
        Leading child port instance_found port_found
    first (inl e) p =
        let none : child ≡ None = ap (option_and_then (λ k. slice_get s.node.children k)) e.0 in
        subst (λ a. Leading a port instance_found port_found) (sym none)
        (subst (λ i. Leading None port i port_found) (sym e.1) p)
    first (inr e) p =
        subst (λ a. Leading a port instance_found port_found) (sym e.2)
        (subst (λ i. Leading (Some e.0) port i port_found) (sym e.3) e.4)

    -- so each name of such an instance leads as in the text
    neighbors-lead : FitsText s →
        option_and_then template_at (neighbor s.node s.template name) ≡ neighbor_template d.spec s.template name
    neighbors-lead fits =
        ap (option_and_then template_at)
        (first-of-two (λ k. slice_get s.node.children k) (λ k. slice_get s.node.ports k)
        (position (λ (i : InstanceTree). is_spelled name i.name) s.template.instances)
        (position (λ (p : Port). is_spelled name p.name) s.template.ports))
        ∙ first (first-leads (λ (i : InstanceTree). i.template) s.template.instances s.node.children fits.children
        (λ (i : InstanceTree). is_spelled name i.name))
        (second (first-leads (λ (p : Port). p.template) s.template.ports s.node.ports fits.ports
        (λ (p : Port). is_spelled name p.name)))
        ∙ ap (option_and_then (λ (known : Ident). template_named d.spec known.text)) (sym known)

  -- where each instance is such, paths lead by the text
  module _ (fit : (n : ℕ) (s : Site) → site d n ≡ Some s → FitsText s) where
    paths-lead : (path : List Ident) (n : ℕ) (s : Site) → site d n ≡ Some s →
        option_map (λ (t : Site). t.template) (site_along d s path) ≡ template_along d.spec s.template path
    paths-lead [] n s there = refl
    paths-lead (name ∷ []) n s there = refl
    paths-lead (name ∷ next ∷ names) n s there =
        by (neighbor s.node s.template name.text) (neighbors-lead s name.text (fit n s there))
        (paths-lead (next ∷ names))
      where
        of_site : (m : ℕ) (o : Option Site) → site d m ≡ o →
            ((n : ℕ) (s : Site) → site d n ≡ Some s →
            option_map (λ (t : Site). t.template) (site_along d s (next ∷ names))
            ≡ template_along d.spec s.template (next ∷ names)) →
            option_map (λ (t : Site). t.template) (option_and_then (λ u. site_along d u (next ∷ names)) o)
            ≡ option_and_then (λ u. template_along d.spec u (next ∷ names))
            (option_map (λ (t : Site). t.template) o)
        of_site m None is deeper = refl
        of_site m (Some u) is deeper = deeper m u is

        by : (o : Option ℕ) → option_and_then template_at o ≡ neighbor_template d.spec s.template name.text →
            ((n : ℕ) (s : Site) → site d n ≡ Some s →
            option_map (λ (t : Site). t.template) (site_along d s (next ∷ names))
            ≡ template_along d.spec s.template (next ∷ names)) →
            option_map (λ (t : Site). t.template)
            (option_and_then (λ m. option_and_then (λ u. site_along d u (next ∷ names)) (site d m)) o)
            ≡ option_and_then (λ u. template_along d.spec u (next ∷ names))
            (neighbor_template d.spec s.template name.text)
        by None is deeper = ap (option_and_then (λ u. template_along d.spec u (next ∷ names))) is
        by (Some m) is deeper =
            of_site m (site d m) refl deeper ∙ ap (option_and_then (λ u. template_along d.spec u (next ∷ names))) is

  -- a template's number and its name lead to the same
  named-number : (name : List ℕ) (k : ℕ) → template_number d.spec name ≡ Some k →
      template_named d.spec name ≡ slice_get d.spec.templates k
  named-number name k is =
      find-position (λ (t : TemplateTree). is_spelled name t.name) d.spec.templates
      ∙ ap (option_and_then (slice_get d.spec.templates)) is

  -- instances that are declared one behind the other are of the templates of their declarations
  forest-leads : {parent : InstanceNode} {t : TemplateTree} (is : List InstanceTree) (children : List ℕ) {at end : ℕ} →
      IsForest d.spec d.instances parent t is children at end → (k : ℕ) (x : InstanceTree) →
      slice_get is k ≡ Some x →
      (n : ℕ) × (slice_get children k ≡ Some n) × (template_at n ≡ template_named d.spec x.template.text)
  forest-leads [] children f k x e = absurd (none-some x e)
  forest-leads (i ∷ is) [] f k x e = elim f [ ]
  forest-leads (i ∷ is) (c ∷ children) (one_more {child = child} at declared below others) zero x e = (
    c,
    refl,
    template_at-node c child at ∙ sym (named-number i.template.text child.template declared.template)
        ∙ ap (λ (i : InstanceTree). template_named d.spec i.template.text) (same_Some i x e),
  )
  forest-leads (i ∷ is) (c ∷ children) (one_more at declared below others) (suc k) x e =
      forest-leads is children others k x e

  -- all instances from one number up to another one fit
  abbrev FitFrom : ℕ → ℕ → Type 0
  FitFrom at end = (n : ℕ) → at ≤ n → n < end → (s : Site) → site d n ≡ Some s → FitsText s

  made-site : (n : ℕ) (node : InstanceNode) (t : TemplateTree) → slice_get d.instances n ≡ Some node →
      slice_get d.spec.templates node.template ≡ Some t →
      site d n ≡ Some (record { number = n; node = node; template = t })
  made-site n node t at there =
      ap (option_and_then (λ (node : InstanceNode). option_map
      (λ (t : TemplateTree). record { number = n; node = node; template = t })
      (slice_get d.spec.templates node.template))) at
      ∙ ap (option_map (λ (t : TemplateTree). record { number = n; node = node; template = t })) there

  -- one instance, and all those below it
  subtree-step : (at end : ℕ) (node : InstanceNode) (t : TemplateTree) → slice_get d.instances at ≡ Some node →
      slice_get d.spec.templates node.template ≡ Some t →
      FitsText (record { number = at; node = node; template = t }) → FitFrom (at + 1) end → FitFrom at end
  subtree-step at end node t is there fits others = λ n from to s here. by n from to s here (same_or_not n at)
    where
      by : (n : ℕ) → at ≤ n → n < end → (s : Site) → site d n ≡ Some s → (n ≡ at) ⊎ (n ≡ at → ⊥) → FitsText s
      by n from to s here (inl same) =
          subst FitsText (same_Some (record { number = at; node = node; template = t }) s
          (sym (made-site at node t is there) ∙ ap (site d) (sym same) ∙ here)) fits
      by n from to s here (inr other) = others n (past at n from other (below_or_not at n)) to s here

  -- some instances, and those behind them
  forest-step : (at middle end : ℕ) → FitFrom at middle → FitFrom middle end → FitFrom at end
  forest-step at middle end firsts others = λ n from to s here. by n from to s here (below_or_not n middle)
    where
      by : (n : ℕ) → at ≤ n → n < end → (s : Site) → site d n ≡ Some s → (n < middle) ⊎ (middle ≤ n) → FitsText s
      by n from to s here (inl inside) = firsts n from inside s here
      by n from to s here (inr beyond) = others n beyond to s here

  module _ (joined : IsJoined d.spec) where
    -- a port leads to what its parent's name leads to
    port-leads : (parent : Site) → FitsText parent → (child : InstanceNode) (k : ℕ) (p : Port) (a : Ident) →
        neighbor_template d.spec parent.template a.text ≡ template_named d.spec p.template.text →
        (o : Option ℕ) → slice_get child.ports k ≡ o →
        option_map (λ (c : ℕ). Some c) o ≡ Some (neighbor parent.node parent.template a.text) →
        (n : ℕ) × (slice_get child.ports k ≡ Some n) × (template_at n ≡ template_named d.spec p.template.text)
    port-leads parent fits _ k p a suits None at e =
        absurd (none-some (neighbor parent.node parent.template a.text) e)
    port-leads parent fits _ k p a suits (Some c) at e =
        let leads : Some c ≡ neighbor parent.node parent.template a.text =
        same_Some (Some c) (neighbor parent.node parent.template a.text) e in
        (c, at, ap (option_and_then template_at) leads ∙ neighbors-lead parent a.text fits ∙ suits)

    -- so the ports of an instance lead to instances of their templates
    ports-lead : (parent : Site) → FitsText parent → (i : InstanceTree) → HasArguments d.spec parent.template i →
        (child : InstanceNode) → IsDeclared d.spec parent.node parent.template i child → (t : TemplateTree) →
        slice_get d.spec.templates child.template ≡ Some t → LeadsInto (λ (p : Port). p.template) t.ports child.ports
    ports-lead parent fits i has child declared t there = λ k p is.
        let same : has.of ≡ t =
        same_Some has.of t (sym has.is ∙ named-number i.template.text child.template declared.template ∙ there) in
        let arg = has.args k p (ap (λ (u : TemplateTree). slice_get u.ports k) same ∙ is) in
        port-leads parent fits child k p arg.0 arg.2 (slice_get child.ports k) refl
        (sym (slice_get-map (λ (c : ℕ). Some c) child.ports k)
        ∙ ap (λ (os : List (Option ℕ)). slice_get os k) (sym declared.ports)
        ∙ slice_get-map (λ (a : Ident). neighbor parent.node parent.template a.text) i.args k
        ∙ ap (option_map (λ (a : Ident). neighbor parent.node parent.template a.text)) arg.1)

    mutual
      subtree-fits : (at end : ℕ) → IsSubtree d.spec d.instances at end →
          ((node : InstanceNode) (t : TemplateTree) → slice_get d.instances at ≡ Some node →
          slice_get d.spec.templates node.template ≡ Some t →
          LeadsInto (λ (p : Port). p.template) t.ports node.ports) → FitFrom at end
      subtree-fits at end (subtree {node = node} {t = t} is there below) ports =
          let here : Site = record { number = at; node = node; template = t } in
          let fits : FitsText here = record {
            children = λ k x e. forest-leads t.instances node.children below k x e;
            ports = ports node t is there;
          } in
          subtree-step at end node t is there fits
          (forest-fits here fits (in_get d.spec.templates node.template there) t.instances node.children (at + 1) end
          below (λ i j. j))

      forest-fits : (parent : Site) → FitsText parent → In parent.template d.spec.templates →
          (is : List InstanceTree) (children : List ℕ) (at end : ℕ) →
          IsForest d.spec d.instances parent.node parent.template is children at end →
          ((i : InstanceTree) → In i is → In i parent.template.instances) → FitFrom at end
      forest-fits parent fits text _ _ _ _ (none_left {end = end}) among = λ n from to s here.
          absurd (omega (arith, from, to))
      forest-fits parent fits text _ _ _ _
          (one_more {child = child} {first = first} {others = others} {children = later} {at = at} {middle = middle}
          {end = end} at_child declared below behind) among =
          forest-step at middle end
          (subtree-fits at middle below (λ node t is there.
          let same : child ≡ node = same_Some child node (sym at_child ∙ is) in
          ports-lead parent fits first (has-arguments d.spec joined parent.template text first (among first first_of))
          node (subst (IsDeclared d.spec parent.node parent.template first) same declared) t there))
          (forest-fits parent fits text others later middle end behind (λ i j. among i (later_of j)))

    -- the instance of `main` has no ports
    main-fits : AreInstances d.spec d.instances → (node : InstanceNode) (t : TemplateTree) →
        slice_get d.instances 0 ≡ Some node → slice_get d.spec.templates node.template ≡ Some t →
        LeadsInto (λ (p : Port). p.template) t.ports node.ports
    main-fits are node t at there = λ k p is.
        let number : template_number d.spec (codes "main") ≡ Some node.template =
        are.template ∙ ap (option_map (λ (n : InstanceNode). n.template)) at in
        let found = of_find (λ (u : TemplateTree). is_spelled (codes "main") u.name) d.spec.templates
        (named-number (codes "main") node.template number ∙ there) in
        absurd (none-some p (sym (ap (λ (ports : List Port). slice_get ports k)
        (main-portless d.spec joined t found.0 found.1)) ∙ is))

    -- an instance stands among the instances
    within : (n : ℕ) (s : Site) → site d n ≡ Some s → n < length d.instances
    within n s here = by (slice_get d.instances n) refl here
      where
        by : (o : Option InstanceNode) → slice_get d.instances n ≡ o →
            option_and_then (λ (node : InstanceNode). option_map
            (λ (t : TemplateTree). record { number = n; node = node; template = t })
            (slice_get d.spec.templates node.template)) o ≡ Some s → n < length d.instances
        by None at e = absurd (none-some s e)
        by (Some node) at e = slice_get_within d.instances n node at

    -- all instances fit, from `main` down
    all-fit : AreInstances d.spec d.instances → (n : ℕ) (s : Site) → site d n ≡ Some s → FitsText s
    all-fit are n s here =
        subtree-fits 0 (length d.instances) are.all (main-fits are) n (omega arith) (within n s here) s here

-- where names are known and told apart, all that is asked fits, and the instances are those of the text, paths lead by
-- it
pub joined_leads : (d : DesignTree) → IsFree d.spec kind.UnknownName → IsFree d.spec kind.Twice →
    IsFree d.spec kind.Mismatch → AreInstances d.spec d.instances → LeadsByText d
joined_leads d known once matching instances = λ n s path there.
    paths-lead d (all-fit d (record { known = known; once = once; matching = matching }) instances) path n s there

-- in a design that keeps its facts paths lead by the text
pub sound_leads : (d : DesignTree) → IsSound d → LeadsByText d
sound_leads d sound = joined_leads d sound.known sound.once sound.matching sound.numbered.instances
