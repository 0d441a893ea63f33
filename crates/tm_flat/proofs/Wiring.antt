-- In a design each name of an instance, a port or a task leads where the text says.
use Rattle.std.proofs.Common.{◌≡◌, ℕ, ◌+◌, ◌<◌, ◌≤◌, ◌++◌, ◌⊎◌, inl, inr, Option, None, Some, List, [], ◌∷◌, map, length, refl, sym, ap, ◌∙◌, subst, position, find, filter_map, option_to_list, slice_get, arith, codes}
use Rattle.std.specs.Bool.{then_some}
use Rattle.std.specs.Option.{option_map, option_and_then}
use Rattle.std.specs.List.{AllZip, AllByRecursion, cons_option}
use Rattle.std.proofs.lemmas.Option.{slice_get_within}
use Rattle.tm_syntax.specs.declared.tree.Ident.{Ident}
use Rattle.tm_syntax.specs.declared.tree.Port.{Port}
use Rattle.tm_syntax.specs.Tree.{InstanceTree, TemplateTree, TaskTree, SpecTree}
use Rattle.tm_syntax.specs.Scopes.Names.{is_spelled, template_number, template_named, neighbor_template, template_along, last_name}
use Rattle.tm_syntax.specs.Scopes.Context.{Context, task_body, task_frame, param_slot}
use Rattle.tm_syntax.specs.Scopes.Pauses.{task_reached}
use Rattle.tm_syntax.specs.Design.{DesignTree, InstanceNode, neighbor, IsDeclared, IsSubtree, subtree, IsForest, none_left, one_more, AreInstances}
use Rattle.tm_syntax.specs.Design.Scope.{Scope, Site, site, site_along, context}
use Rattle.tm_syntax.specs.Design.Cells.{Called, called, task_called, slot_cell}
use Rattle.tm_flat.specs.Wiring.{IsWired, AreWired}
use Rattle.tm_flat.proofs.Indices.{found_at, found_nowhere, first_given, first_left, first_right, zipped_at, all_at, and_then_is, map_is}

module _ (spec : SpecTree) (nodes : List InstanceNode) where
  -- an instance is of the template of this name
  abbrev IsOf : List ℕ → ℕ → Type 0
  IsOf name j =
      (n : InstanceNode) × (slice_get nodes j ≡ Some n)
      × (slice_get spec.templates n.template ≡ template_named spec name)

  -- what an instance holds and what its ports stand for are of the templates that its own template declares
  record Leads (node : InstanceNode) (t : TemplateTree) : Type 0 where
    children : AllZip (λ (i : InstanceTree) j. IsOf i.template.text j) t.instances node.children
    ports : AllZip (λ (p : Port) j. IsOf p.template.text j) t.ports node.ports

  -- the instance that a name stands for
  neighbor_is : (node : InstanceNode) (t : TemplateTree) (name : List ℕ) (j : ℕ) → Leads node t →
      neighbor node t name ≡ Some j →
      (n : InstanceNode) × (slice_get nodes j ≡ Some n)
      × (neighbor_template spec t name ≡ slice_get spec.templates n.template)
  neighbor_is node t name j leads =
      of (position (λ (i : InstanceTree). is_spelled name i.name) t.instances) refl
      (position (λ (p : Port). is_spelled name p.name) t.ports) refl
    where
      of : (a : Option ℕ) → position (λ (i : InstanceTree). is_spelled name i.name) t.instances ≡ a →
          (b : Option ℕ) → position (λ (p : Port). is_spelled name p.name) t.ports ≡ b →
          slice_get (filter_map (λ k. slice_get node.children k) (option_to_list a)
          ++ filter_map (λ k. slice_get node.ports k) (option_to_list b)) 0 ≡ Some j →
          (n : InstanceNode) × (slice_get nodes j ≡ Some n)
          × (neighbor_template spec t name ≡ slice_get spec.templates n.template)
      of (Some k) at b other is =
          let found : (find (λ (i : InstanceTree). is_spelled name i.name) t.instances ≡ slice_get t.instances k)
          × (k < length t.instances) =
          found_at (λ (i : InstanceTree). is_spelled name i.name) t.instances k at in
          let zipped : (i : InstanceTree) × (c : ℕ) × (slice_get t.instances k ≡ Some i)
          × (slice_get node.children k ≡ Some c) × IsOf i.template.text c =
          zipped_at (λ (i : InstanceTree) c. IsOf i.template.text c) t.instances node.children leads.children k
          found.1 in
          let child : slice_get node.children k ≡ Some zipped.1 = zipped.3 in
          let first : slice_get (cons_option (Some zipped.1) []
          ++ filter_map (λ k. slice_get node.ports k) (option_to_list b)) 0 ≡ Some j =
          subst
          (λ o. slice_get (cons_option o [] ++ filter_map (λ k. slice_get node.ports k) (option_to_list b)) 0
          ≡ Some j)
          child is in
          let same : zipped.1 ≡ j = cc in
          let known : slice_get (filter_map (λ (i : InstanceTree). then_some (is_spelled name i.name) i.template)
          t.instances) 0 ≡ Some zipped.0.template =
          first_given (λ (i : InstanceTree). is_spelled name i.name) (λ (i : InstanceTree). i.template) t.instances
          ∙ ap (option_map (λ (i : InstanceTree). i.template)) (found.0 ∙ zipped.2) in
          let whole : slice_get (filter_map (λ (i : InstanceTree). then_some (is_spelled name i.name) i.template)
          t.instances
          ++ filter_map (λ (p : Port). then_some (is_spelled name p.name) p.template) t.ports) 0
          ≡ Some zipped.0.template =
          first_left (filter_map (λ (i : InstanceTree). then_some (is_spelled name i.name) i.template) t.instances)
          (filter_map (λ (p : Port). then_some (is_spelled name p.name) p.template) t.ports) zipped.0.template
          known in
          let there : IsOf zipped.0.template.text j = subst (IsOf zipped.0.template.text) same zipped.4 in (
            there.0,
            there.1,
            ap (λ o. option_and_then (λ (known : Ident). template_named spec known.text) o) whole ∙ sym there.2,
          )
      of None at (Some k) other is =
          let found : (find (λ (p : Port). is_spelled name p.name) t.ports ≡ slice_get t.ports k)
          × (k < length t.ports) =
          found_at (λ (p : Port). is_spelled name p.name) t.ports k other in
          let zipped : (p : Port) × (c : ℕ) × (slice_get t.ports k ≡ Some p)
          × (slice_get node.ports k ≡ Some c) × IsOf p.template.text c =
          zipped_at (λ (p : Port) c. IsOf p.template.text c) t.ports node.ports leads.ports k found.1 in
          let port : slice_get node.ports k ≡ Some zipped.1 = zipped.3 in
          let first : slice_get (cons_option (Some zipped.1) []) 0 ≡ Some j =
          subst (λ o. slice_get (cons_option o []) 0 ≡ Some j) port is in
          let same : zipped.1 ≡ j = cc in
          let none : slice_get (filter_map (λ (i : InstanceTree). then_some (is_spelled name i.name) i.template)
          t.instances) 0 ≡ None =
          first_given (λ (i : InstanceTree). is_spelled name i.name) (λ (i : InstanceTree). i.template) t.instances
          ∙ ap (option_map (λ (i : InstanceTree). i.template))
          (found_nowhere (λ (i : InstanceTree). is_spelled name i.name) t.instances at) in
          let known : slice_get (filter_map (λ (p : Port). then_some (is_spelled name p.name) p.template) t.ports) 0
          ≡ Some zipped.0.template =
          first_given (λ (p : Port). is_spelled name p.name) (λ (p : Port). p.template) t.ports
          ∙ ap (option_map (λ (p : Port). p.template)) (found.0 ∙ zipped.2) in
          let whole : slice_get (filter_map (λ (i : InstanceTree). then_some (is_spelled name i.name) i.template)
          t.instances
          ++ filter_map (λ (p : Port). then_some (is_spelled name p.name) p.template) t.ports) 0
          ≡ Some zipped.0.template =
          first_right (filter_map (λ (i : InstanceTree). then_some (is_spelled name i.name) i.template) t.instances)
          (filter_map (λ (p : Port). then_some (is_spelled name p.name) p.template) t.ports) none
          ∙ known in
          let there : IsOf zipped.0.template.text j = subst (IsOf zipped.0.template.text) same zipped.4 in (
            there.0,
            there.1,
            ap (λ o. option_and_then (λ (known : Ident). template_named spec known.text) o) whole ∙ sym there.2,
          )
      of None at None other is = absurd (cc)

  -- the ports of an instance stand for what its arguments name
  ports_lead : (parent : InstanceNode) (t : TemplateTree) → Leads parent t → (args : List Ident) (ports : List Port)
      (js : List ℕ) →
      AllZip (λ (a : Ident) (p : Port). neighbor_template spec t a.text ≡ template_named spec p.template.text) args
      ports →
      map (λ (a : Ident). neighbor parent t a.text) args ≡ map Some js →
      AllZip (λ (p : Port) j. IsOf p.template.text j) ports js
  ports_lead parent t leads [] [] [] wired are = tt
  ports_lead parent t leads [] [] (j ∷ js) wired are = absurd (cc)
  ports_lead parent t leads [] (p ∷ ps) js wired are = absurd wired
  ports_lead parent t leads (a ∷ as') [] js wired are = absurd wired
  ports_lead parent t leads (a ∷ as') (p ∷ ps) [] wired are = absurd (cc)
  ports_lead parent t leads (a ∷ as') (p ∷ ps) (j ∷ js) wired are =
      let here : neighbor parent t a.text ≡ Some j = cc in
      let others : map (λ (b : Ident). neighbor parent t b.text) as' ≡ map Some js = cc in
      let there : (n : InstanceNode) × (slice_get nodes j ≡ Some n)
      × (neighbor_template spec t a.text ≡ slice_get spec.templates n.template) =
      neighbor_is parent t a.text j leads here in
      ((there.0, there.1, sym there.2 ∙ wired.0), ports_lead parent t leads as' ps js wired.1 others)

  number_is_named : (name : List ℕ) (k : ℕ) → template_number spec name ≡ Some k →
      slice_get spec.templates k ≡ template_named spec name
  number_is_named name k is = sym (found_at (λ (t : TemplateTree). is_spelled name t.name) spec.templates k is).0

  -- what a forest declares are the children
  forest_children : {parent : InstanceNode} {t : TemplateTree} {instances : List InstanceTree} {children : List ℕ}
      {at end : ℕ} → IsForest spec nodes parent t instances children at end →
      AllZip (λ (i : InstanceTree) j. IsOf i.template.text j) instances children
  forest_children none_left = tt
  forest_children (one_more {child = child} {first = first} is declared below others) =
      ((child, is, number_is_named first.template.text child.template declared.template), forest_children others)

  -- the instance of this number leads where its template says
  abbrev IsLed : ℕ → Type 0
  IsLed i =
      (node : InstanceNode) × (t : TemplateTree) × (slice_get nodes i ≡ Some node)
      × (slice_get spec.templates node.template ≡ Some t) × Leads node t

  -- the ports of a child stand for what its declaration says
  child_ports : (parent : InstanceNode) (t : TemplateTree) (declared : InstanceTree) (child : InstanceNode) (at : ℕ) →
      Leads parent t → slice_get nodes at ≡ Some child → IsDeclared spec parent t declared child →
      IsWired spec t declared → (n : InstanceNode) (u : TemplateTree) → slice_get nodes at ≡ Some n →
      slice_get spec.templates n.template ≡ Some u →
      AllZip (λ (p : Port) j. IsOf p.template.text j) u.ports n.ports
  child_ports parent t declared child at leads is fits wired n u known template =
      let same : child ≡ n = cc in
      let ports : map (λ (a : Ident). neighbor parent t a.text) declared.args ≡ map Some n.ports =
      subst (λ (c : InstanceNode). map (λ (a : Ident). neighbor parent t a.text) declared.args ≡ map Some c.ports)
      same fits.ports in
      let number : template_number spec declared.template.text ≡ Some n.template =
      subst (λ (c : InstanceNode). template_number spec declared.template.text ≡ Some c.template) same
      fits.template in
      let named : template_named spec declared.template.text ≡ Some u =
      sym (number_is_named declared.template.text n.template number) ∙ template in
      ports_lead parent t leads declared.args u.ports n.ports (wired u named) ports

  here_or_below : (at i : ℕ) → at ≤ i → (at ≡ i) ⊎ (at + 1 ≤ i)
  here_or_below at i h = grind arith

  before_or_behind : (i middle : ℕ) → (i < middle) ⊎ (middle ≤ i)
  before_or_behind i middle = grind arith

  module _ (wired : AllByRecursion (λ t. AllByRecursion (IsWired spec t) t.instances) spec.templates) where
    mutual
      subtree_leads : {at end : ℕ} → IsSubtree spec nodes at end →
          ((n : InstanceNode) (u : TemplateTree) → slice_get nodes at ≡ Some n →
          slice_get spec.templates n.template ≡ Some u →
          AllZip (λ (p : Port) j. IsOf p.template.text j) u.ports n.ports) →
          (i : ℕ) → at ≤ i → i < end → IsLed i
      subtree_leads {at} {end} (subtree {node = node} {t = t} is of_template below) ports i from upto =
          let leads : Leads node t = record { children = forest_children below; ports = ports node t is of_template } in
          of leads (here_or_below at i from)
          (λ deeper. forest_leads below leads
          (all_at (λ (u : TemplateTree). AllByRecursion (IsWired spec u) u.instances) spec.templates node.template t
          wired of_template)
          i deeper upto)
        where
          of : Leads node t → (at ≡ i) ⊎ (at + 1 ≤ i) → (at + 1 ≤ i → IsLed i) → IsLed i
          of leads (inl same) f = (node, t, subst (λ k. slice_get nodes k ≡ Some node) same is, of_template, leads)
          of leads (inr deeper) f = f deeper

      forest_leads : {parent : InstanceNode} {t : TemplateTree} {instances : List InstanceTree} {children : List ℕ}
          {at end : ℕ} → IsForest spec nodes parent t instances children at end → Leads parent t →
          AllByRecursion (IsWired spec t) instances → (i : ℕ) → at ≤ i → i < end → IsLed i
      forest_leads none_left leads all i from upto = absurd (omega arith)
      forest_leads {parent = parent} {t = t}
          (one_more {child = child} {first = first} {at = at} {middle = middle} is declared below others) leads all i
          from upto =
          of (before_or_behind i middle)
          (λ inside. subtree_leads below
          (λ n u known template.
          child_ports parent t first child at leads is declared all.0 n u known template)
          i from inside)
          (λ outside. forest_leads others leads all.1 i outside upto)
        where
          of : (i < middle) ⊎ (middle ≤ i) → (i < middle → IsLed i) → (middle ≤ i → IsLed i) → IsLed i
          of (inl inside) f g = f inside
          of (inr outside) f g = g outside

  -- every instance leads where its template says
  all_led : AreWired spec → AreInstances spec nodes → (i : ℕ) → i < length nodes → IsLed i
  all_led wired are i below = subtree_leads wired.instances are.all root i (omega arith) below
    where
      root : (n : InstanceNode) (u : TemplateTree) → slice_get nodes 0 ≡ Some n →
          slice_get spec.templates n.template ≡ Some u →
          AllZip (λ (p : Port) j. IsOf p.template.text j) u.ports n.ports
      root n u known template =
          let first : option_map (λ (m : InstanceNode). m.ports) (Some n) ≡ Some [] =
          subst (λ o. option_map (λ (m : InstanceNode). m.ports) o ≡ Some []) known are.ports in
          let none : n.ports ≡ [] = cc in
          let number : template_number spec (codes "main") ≡ Some n.template =
          are.template ∙ ap (option_map (λ (m : InstanceNode). m.template)) known in
          let named : template_named spec (codes "main") ≡ Some u =
          sym (number_is_named (codes "main") n.template number) ∙ template in
          let empty : u.ports ≡ [] = wired.main u named in
          subst (λ (js : List ℕ). AllZip (λ (p : Port) j. IsOf p.template.text j) u.ports js) (sym none)
          (subst (λ (ps : List Port). AllZip (λ (p : Port) j. IsOf p.template.text j) ps []) (sym empty) tt)

-- ---- paths and calls
parts_of : (j : ℕ) (node : InstanceNode) (o : Option TemplateTree) (x : Site) →
    option_map (λ (t : TemplateTree). record { number = j; node = node; template = t }) o ≡ Some x →
    (x.number ≡ j) × (o ≡ Some x.template)
parts_of j node None x is = absurd (cc)
parts_of j node (Some t) x is =
    let same : record { number = j; node = node; template = t } ≡ x = cc in
    (sym (ap (λ (e : Site). e.number) same), ap (λ (e : Site). Some e.template) same)

module _ (d : DesignTree) (wired : AreWired d.spec) (are : AreInstances d.spec d.instances) where
  -- an instance with its template leads where the template says
  site_leads : (i : ℕ) (s : Site) → site d i ≡ Some s → Leads d.spec d.instances s.node s.template
  site_leads i s is = of (slice_get d.instances i) refl is
    where
      led : (node : InstanceNode) → slice_get d.instances i ≡ Some node → IsLed d.spec d.instances i
      led node there =
          all_led d.spec d.instances wired are i (slice_get_within d.instances i node there)

      of_site : (l : IsLed d.spec d.instances i) →
          option_and_then (λ node. option_map (λ t. record { number = i; node = node; template = t })
          (slice_get d.spec.templates node.template)) (slice_get d.instances i) ≡ Some s →
          Leads d.spec d.instances s.node s.template
      of_site l found =
          let at_node : option_map (λ (t : TemplateTree). record { number = i; node = l.0; template = t })
          (slice_get d.spec.templates l.0.template) ≡ Some s =
          subst
          (λ o. option_and_then
          (λ (node : InstanceNode). option_map (λ t. record { number = i; node = node; template = t })
          (slice_get d.spec.templates node.template)) o ≡ Some s) l.2 found in
          let at_template : Some (record { number = i; node = l.0; template = l.1 }) ≡ Some s =
          subst
          (λ o. option_map (λ (t : TemplateTree). record { number = i; node = l.0; template = t }) o ≡ Some s) l.3
          at_node in
          let same : record { number = i; node = l.0; template = l.1 } ≡ s = cc in
          subst (λ (e : Site). Leads d.spec d.instances e.node e.template) same l.4

      of : (o : Option InstanceNode) → slice_get d.instances i ≡ o → site d i ≡ Some s →
          Leads d.spec d.instances s.node s.template
      of None there found =
          let nothing : None ≡ Some s =
          subst
          (λ o. option_and_then
          (λ (node : InstanceNode). option_map (λ t. record { number = i; node = node; template = t })
          (slice_get d.spec.templates node.template)) o ≡ Some s) there found in
          absurd (cc)
      of (Some node) there found = of_site (led node there) found

  path_ends : (s e : Site) → site d s.number ≡ Some s → s ≡ e →
      (site d e.number ≡ Some e) × (Some s.template ≡ Some e.template)
  path_ends s e is same =
      (subst (λ (x : Site). site d x.number ≡ Some x) same is, ap (λ (x : Site). Some x.template) same)

  -- a path ends in the template that the text says
  pub path_leads : (path : List Ident) (s e : Site) → site d s.number ≡ Some s → site_along d s path ≡ Some e →
      (site d e.number ≡ Some e) × (template_along d.spec s.template path ≡ Some e.template)
  path_leads [] s e is found = path_ends s e is (let same : s ≡ e = cc in same)
  path_leads (name ∷ []) s e is found = path_ends s e is (let same : s ≡ e = cc in same)
  path_leads (name ∷ next ∷ names) s e is found =
      of (neighbor s.node s.template name.text) refl found (λ x. path_leads (next ∷ names) x e)
    where
      of_neighbor : (j : ℕ) → neighbor s.node s.template name.text ≡ Some j → (o : Option Site) → site d j ≡ o →
          option_and_then (λ x. site_along d x (next ∷ names)) o ≡ Some e →
          ((x : Site) → site d x.number ≡ Some x → site_along d x (next ∷ names) ≡ Some e →
          (site d e.number ≡ Some e) × (template_along d.spec x.template (next ∷ names) ≡ Some e.template)) →
          (site d e.number ≡ Some e)
          × (option_and_then (λ n. template_along d.spec n (next ∷ names))
          (neighbor_template d.spec s.template name.text)
          ≡ Some e.template)
      of_neighbor j known None there rest f = absurd (cc)
      of_neighbor j known (Some x) there rest f =
          let there_is : (n : InstanceNode) × (slice_get d.instances j ≡ Some n)
          × (neighbor_template d.spec s.template name.text ≡ slice_get d.spec.templates n.template) =
          neighbor_is d.spec d.instances s.node s.template name.text j (site_leads s.number s is) known in
          let sited : option_map (λ (t : TemplateTree). record { number = j; node = there_is.0; template = t })
          (slice_get d.spec.templates there_is.0.template) ≡ Some x =
          subst
          (λ o. option_and_then
          (λ (node : InstanceNode). option_map (λ t. record { number = j; node = node; template = t })
          (slice_get d.spec.templates node.template)) o ≡ Some x) there_is.1 there in
          let parts : (x.number ≡ j) × (slice_get d.spec.templates there_is.0.template ≡ Some x.template) =
          parts_of j there_is.0 (slice_get d.spec.templates there_is.0.template) x sited in
          let itself : site d x.number ≡ Some x = ap (site d) parts.0 ∙ there in
          let behind : (site d e.number ≡ Some e)
          × (template_along d.spec x.template (next ∷ names) ≡ Some e.template) = f x itself rest in (
            behind.0,
            ap (option_and_then (λ n. template_along d.spec n (next ∷ names))) (there_is.2 ∙ parts.1) ∙ behind.1,
          )

      of : (o : Option ℕ) → neighbor s.node s.template name.text ≡ o →
          option_and_then (λ n. option_and_then (λ x. site_along d x (next ∷ names)) (site d n)) o ≡ Some e →
          ((x : Site) → site d x.number ≡ Some x → site_along d x (next ∷ names) ≡ Some e →
          (site d e.number ≡ Some e) × (template_along d.spec x.template (next ∷ names) ≡ Some e.template)) →
          (site d e.number ≡ Some e)
          × (option_and_then (λ n. template_along d.spec n (next ∷ names))
          (neighbor_template d.spec s.template name.text)
          ≡ Some e.template)
      of None known rest f = absurd (cc)
      of (Some j) known rest f = of_neighbor j known (site d j) refl rest f

  site_number : (i : ℕ) (s : Site) → site d i ≡ Some s → s.number ≡ i
  site_number i s is = of (slice_get d.instances i) is
    where
      of : (o : Option InstanceNode) →
          option_and_then (λ (node : InstanceNode). option_map (λ t. record { number = i; node = node; template = t })
          (slice_get d.spec.templates node.template)) o ≡ Some s → s.number ≡ i
      of None found = absurd (cc)
      of (Some node) found = (parts_of i node (slice_get d.spec.templates node.template) s found).0

  -- a body that a path calls is that of the task that the text says
  pub record Reached (c : Context) (path : List Ident) (callee : Called) : Type 0 where
    pub template : TemplateTree
    pub index : ℕ
    pub task : TaskTree
    pub reached : task_reached d.spec c.template path ≡ Some (template, task)
    pub body : callee.body ≡ task.body
    pub stands : context d callee.scope ≡ Some (record { spec = d.spec; template = template; body = task_body index })

  -- a task as a call runs it
  abbrev as_called : Site → ℕ → TaskTree → Called
  as_called at k task = record {
    scope = record { instance = at.number; body = task_body k };
    params = filter_map
        (λ p.
        slot_cell d (record { instance = at.number; body = task_body k }) at (task_frame d.spec at.template task)
        (param_slot p))
        task.params;
    body = task.body;
  }

  abbrev task_index : List Ident → Site → Option ℕ
  task_index path e = position (λ (task : TaskTree). is_spelled (last_name path) task.name) e.template.tasks

  -- the task that a path reaches by the text
  reached_at : (at e : Site) (path : List Ident) (k : ℕ) (task : TaskTree) →
      template_along d.spec at.template path ≡ Some e.template → task_index path e ≡ Some k →
      slice_get e.template.tasks k ≡ Some task →
      task_reached d.spec at.template path ≡ Some (e.template, task)
  reached_at at e path k task ends index is =
      let along : task_reached d.spec at.template path
      ≡ option_map (λ (t : TaskTree). (e.template, t))
      (find (λ (t : TaskTree). is_spelled (last_name path) t.name) e.template.tasks) =
      ap
      (option_and_then (λ (u : TemplateTree). option_map (λ (t : TaskTree). (u, t))
      (find (λ (t : TaskTree). is_spelled (last_name path) t.name) u.tasks)))
      ends in
      let found : find (λ (t : TaskTree). is_spelled (last_name path) t.name) e.template.tasks
      ≡ slice_get e.template.tasks k =
      (found_at (λ (t : TaskTree). is_spelled (last_name path) t.name) e.template.tasks k index).0 in
      cc

  -- a call from an instance, by its steps
  call_from : (c : Context) (path : List Ident) (callee : Called) (at e : Site) (k : ℕ) (task : TaskTree) →
      c.template ≡ at.template → site d at.number ≡ Some at → site_along d at path ≡ Some e →
      task_index path e ≡ Some k → slice_get e.template.tasks k ≡ Some task → as_called e k task ≡ callee →
      Reached c path callee
  call_from c path callee at e k task here is along index stands runs =
      let ends : (site d e.number ≡ Some e) × (template_along d.spec at.template path ≡ Some e.template) =
      path_leads path at e is along in
      record {
        template = e.template;
        index = k;
        task = task;
        reached = subst (λ (u : TemplateTree). task_reached d.spec u path ≡ Some (e.template, task)) (sym here)
            (reached_at at e path k task ends.1 index stands);
        body = sym (ap (λ (x : Called). x.body) runs);
        stands = subst
            (λ (x : Called). context d x.scope
            ≡ Some (record { spec = d.spec; template = e.template; body = task_body k }))
            runs
            (ap
            (option_map (λ (x : Site). record { spec = d.spec; template = x.template; body = task_body k }))
            ends.0);
      }

  -- where a scope stands
  stands_at : (scope : Scope) (c : Context) (at : Site) → site d scope.instance ≡ Some at → context d scope ≡ Some c →
      c.template ≡ at.template
  stands_at scope c at is here =
      let whole : Some (record { spec = d.spec; template = at.template; body = scope.body }) ≡ Some c =
      subst
      (λ o. option_map (λ (x : Site). record { spec = d.spec; template = x.template; body = scope.body }) o ≡ Some c)
      is here in
      let same : record { spec = d.spec; template = at.template; body = scope.body } ≡ c = cc in
      sym (ap (λ (x : Context). x.template) same)

  pub call_leads : (scope : Scope) (c : Context) (path : List Ident) (callee : Called) → context d scope ≡ Some c →
      called d scope path ≡ Some callee → Reached c path callee
  call_leads scope c path callee here calls =
      let first : (at : Site) × (site d scope.instance ≡ Some at)
      × (option_and_then (λ s. option_and_then (task_called d s) (task_index path s)) (site_along d at path)
      ≡ Some callee) =
      and_then_is
      (λ at. option_and_then (λ s. option_and_then (task_called d s) (task_index path s)) (site_along d at path))
      (site d scope.instance) callee calls in
      let second : (e : Site) × (site_along d first.0 path ≡ Some e)
      × (option_and_then (task_called d e) (task_index path e) ≡ Some callee) =
      and_then_is (λ s. option_and_then (task_called d s) (task_index path s)) (site_along d first.0 path) callee
      first.2 in
      let third : (k : ℕ) × (task_index path second.0 ≡ Some k) × (task_called d second.0 k ≡ Some callee) =
      and_then_is (task_called d second.0) (task_index path second.0) callee second.2 in
      let fourth : (task : TaskTree) × (slice_get second.0.template.tasks third.0 ≡ Some task)
      × (as_called second.0 third.0 task ≡ callee) =
      map_is (as_called second.0 third.0) (slice_get second.0.template.tasks third.0) callee third.2 in
      let itself : site d first.0.number ≡ Some first.0 =
      ap (site d) (site_number scope.instance first.0 first.1) ∙ first.1 in
      call_from c path callee first.0 second.0 third.0 fourth.0 (stands_at scope c first.0 first.1 here) itself second.1
      third.1 fourth.1 fourth.2
