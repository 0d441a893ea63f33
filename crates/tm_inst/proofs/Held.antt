-- An instance that is held, as the text declares it.
use Rattle.std.proofs.Common.{◌≡◌, ℕ, zero, suc, ◌+◌, true, Some, List, [], ◌∷◌, ◌++◌, length, get_or, map, slice_get, sym, ap, ◌∙◌, subst}
use Rattle.std.specs.Prelude.{codes, sum_by}
use Rattle.std.specs.List.{AllByRecursion, filter_map}
use Rattle.std.specs.Option.{option_and_then, option_map}
use Rattle.std.proofs.lemmas.List.{append-nil, map-append}
use Rattle.std.proofs.lemmas.Option.{same_Some}
use Rattle.tm_syntax.specs.declared.design.Instance.{Instance}
use Rattle.tm_syntax.specs.declared.tree.Ident.{Ident}
use Rattle.tm_syntax.specs.declared.tree.InstanceDef.{InstanceDef}
use Rattle.tm_syntax.specs.declared.tree.Spec.{Spec}
use Rattle.tm_syntax.specs.Tree.{InstanceTree, SpecTree, TemplateTree}
use Rattle.tm_syntax.specs.Tree.View.{instance_tree, spec_tree}
use Rattle.tm_syntax.specs.Scopes.Names.{template_number}
use Rattle.tm_syntax.specs.Design.{AreInstances, InstanceNode, IsSubtree, instance_node, member_path, neighbor}
use Rattle.tm_syntax.specs.Design.Scope.{Site, site}
use Rattle.tm_scope.specs.Instances.{bare_design}
use Rattle.tm_inst.specs.Instances.{held_size, names_neighbor}
use Rattle.tm_inst.specs.Inner.Growth.{Grows, HasGrown, HasHeld, HoldsAt, offsets, port_named}
use Rattle.tm_inst.proofs.Growing.{grows_at_first, held_size_is}
use Rattle.tm_inst.proofs.Neighbors.{all_there, arguments_there, mapped_alike}

-- the instance of a number, and its template
site_is : (spec : Spec) (nodes : List Instance) (holder : ℕ) (node : InstanceNode) (t : TemplateTree) →
    slice_get (map instance_node nodes) holder ≡ Some node →
    slice_get (spec_tree spec).templates node.template ≡ Some t →
    site (bare_design (record { spec = spec; instances = nodes })) holder
    ≡ Some (record { number = holder; node = node; template = t })
site_is spec nodes holder node t is of_template =
    ap (option_and_then (λ (n : InstanceNode). option_map (λ (u : TemplateTree).
    record { number = holder; node = n; template = u }) (slice_get (spec_tree spec).templates n.template))) is
    ∙ ap (option_map (λ (u : TemplateTree). record { number = holder; node = node; template = u })) of_template

-- what an argument stands for there
port_is : (spec : Spec) (nodes : List Instance) (holder : ℕ) (node : InstanceNode) (t : TemplateTree) →
    slice_get (map instance_node nodes) holder ≡ Some node →
    slice_get (spec_tree spec).templates node.template ≡ Some t →
    (a : Ident) → port_named spec nodes holder a ≡ neighbor node t a.text
port_is spec nodes holder node t is of_template a =
    ap (option_and_then (λ (s : Site). neighbor s.node s.template a.text))
    (site_is spec nodes holder node t is of_template)

module _ (spec : Spec) (nodes : List Instance) (holder : ℕ) (i : InstanceDef)
    (holds : HoldsAt (spec_tree spec) (map instance_node nodes) holder (instance_tree i)) where
  -- as many ports are found as the template has
  pub ports_are_as_many : (template : ℕ) (t : TemplateTree) →
      template_number (spec_tree spec) i.template.text ≡ Some template →
      slice_get (spec_tree spec).templates template ≡ Some t →
      length (filter_map (port_named spec nodes holder) i.args.items) ≡ length t.ports
  ports_are_as_many template t named is =
      let declares = holds.declares in
      let same_number = same_Some declares.number template (sym declares.named ∙ named) in
      let same_template = same_Some declares.held t
      (sym declares.is ∙ ap (slice_get (spec_tree spec).templates) same_number ∙ is) in
      (all_there (port_named spec nodes holder) i.args.items
      (arguments_there (port_named spec nodes holder) holds.node holds.template
      (port_is spec nodes holder holds.node holds.template holds.is holds.template_is) i.args.items holds.children
      holds.ports declares.known)).0
      ∙ declares.many
      ∙ ap (λ (u : TemplateTree). length u.ports) same_template

  -- what has grown is held as it is declared
  pub grown_is_held : (sizes : List ℕ) (new : List InstanceNode) (template : ℕ) (path ports : List ℕ)
      (parent : InstanceNode) (t : TemplateTree) → template_number (spec_tree spec) i.template.text ≡ Some template →
      ports ≡ filter_map (port_named spec nodes holder) i.args.items → path ≡ member_path parent.path i.name.text →
      slice_get (map instance_node nodes) holder ≡ Some parent →
      slice_get (spec_tree spec).templates parent.template ≡ Some t →
      HasGrown (spec_tree spec) (map instance_node nodes) new template (get_or sizes template 0) path ports →
      HasHeld (spec_tree spec) (map instance_node nodes) new parent t (instance_tree i)
      (held_size (spec_tree spec) sizes (instance_tree i))
  grown_is_held sizes new template path ports parent t named with_ports with_path is of_template grown =
      let same_node = same_Some parent holds.node (sym is ∙ holds.is) in
      let same_template = same_Some t holds.template
      (sym of_template ∙ ap (λ (n : InstanceNode). slice_get (spec_tree spec).templates n.template) same_node
      ∙ holds.template_is) in
      let f = port_named spec nodes holder in
      let own = port_is spec nodes holder parent t is of_template in
      let children = ap (λ (n : InstanceNode). length n.children) same_node ∙ holds.children
      ∙ ap (λ (u : TemplateTree). length u.instances) (sym same_template) in
      let with_all = ap (λ (n : InstanceNode). length n.ports) same_node ∙ holds.ports
      ∙ ap (λ (u : TemplateTree). length u.ports) (sym same_template) in
      let known = subst
      (λ (u : TemplateTree). AllByRecursion (λ (a : Ident). names_neighbor u a.text ≡ true) i.args.items)
      (sym same_template) holds.declares.known in
      let all = all_there f i.args.items (arguments_there f parent t own i.args.items children with_all known) in
      record {
        added = grown.added;
        child = grown.node;
        behind = grown.behind;
        many = grown.many ∙ sym (held_size_is (spec_tree spec) sizes (instance_tree i) template named);
        first = grown.first;
        declared = record {
          path = grown.path_is ∙ with_path;
          template = named ∙ ap Some (sym grown.template_is);
          ports = mapped_alike (λ (a : Ident). neighbor parent t a.text) f i.args.items (λ a. sym (own a)) ∙ all.1
              ∙ ap (map Some) (sym with_ports ∙ sym grown.ports_are);
        };
        below = grown.below;
      }

-- the instance of a number, as plain data
pub parent_is : (nodes : List Instance) (k : ℕ) (x : Instance) (parent : InstanceNode) →
    slice_get (map instance_node nodes) k ≡ Some parent → x ≡ get_or nodes k x → parent ≡ instance_node x
parent_is [] k x parent is here = absurd (cc)
parent_is (n ∷ nodes) zero x parent is here =
    same_Some parent (instance_node n) (sym is) ∙ ap instance_node (sym here)
parent_is (n ∷ nodes) (suc k) x parent is here = parent_is nodes k x parent is here

-- an instance that was pushed has all that it holds before it
pub pushed_grows : (spec : SpecTree) (sizes : List ℕ) (nodes new : List Instance) (x : Instance) (t : TemplateTree)
    (template number : ℕ) (path ports : List ℕ) (held : List InstanceTree) → new ≡ nodes ++ x ∷ [] →
    x.template ≡ template → x.path ≡ path → x.ports.items ≡ ports → number ≡ length (map instance_node nodes) →
    held ≡ t.instances → x.children.items ≡ offsets spec sizes (number + 1) held →
    get_or sizes template 0 ≡ 1 + sum_by (held_size spec sizes) t.instances →
    slice_get spec.templates template ≡ Some t →
    Grows spec sizes (map instance_node nodes) (map instance_node new) t template (get_or sizes template 0) path ports
    held
pushed_grows spec sizes nodes new x t template number path ports held pushed template_is path_is ports_are at own
    children_are sized of_template =
    subst (λ is. Grows spec sizes (map instance_node nodes) (map instance_node new) t template (get_or sizes template 0)
    path ports is) (sym own)
    (grows_at_first spec sizes (map instance_node nodes) (map instance_node new) t template (get_or sizes template 0)
    path ports (instance_node x) (ap (map instance_node) pushed ∙ map-append instance_node nodes (x ∷ [])) template_is
    path_is ports_are
    (children_are ∙ (λ j. offsets spec sizes (at j + 1) (own j))) sized of_template)

-- what has grown from nothing are all instances
pub all_are_instances : (spec : SpecTree) (nodes : List InstanceNode) (main size : ℕ) →
    template_number spec (codes "main") ≡ Some main → HasGrown spec [] nodes main size [] [] → AreInstances spec nodes
all_are_instances spec nodes main size named grown = record {
  path = ap (option_map (λ (n : InstanceNode). n.path)) grown.first ∙ ap Some grown.path_is;
  template = named ∙ ap Some (sym grown.template_is)
      ∙ sym (ap (option_map (λ (n : InstanceNode). n.template)) grown.first);
  ports = ap (option_map (λ (n : InstanceNode). n.ports)) grown.first ∙ ap Some grown.ports_are;
  all = subst (λ ns. IsSubtree spec ns 0 (length nodes)) (append-nil nodes) (grown.below []);
}
