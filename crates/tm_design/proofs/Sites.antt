-- The instances of a design: each but the first is held by an earlier one, and those of one path are of one template.
use Rattle.std.proofs.Common.{◌≡◌, ◌⊎◌, inl, inr, ⊎_elim, ℕ, zero, suc, ◌+◌, ◌<◌, ◌≤◌, Some, List, [], length, refl, sym, ap, ◌∙◌, subst, arith}
use Rattle.std.specs.Prelude.{slice_get}
use Rattle.std.specs.Option.{option_map}
use Rattle.std.specs.List.{AllByRecursion}
use Rattle.std.proofs.lemmas.Bool.{cases_lt}
use Rattle.std.proofs.lemmas.Option.{slice_get_within}
use Rattle.tm_syntax.specs.Tokens.{IsWordLike}
use Rattle.tm_syntax.specs.Tree.{InstanceTree, TemplateTree, SpecTree}
use Rattle.tm_syntax.specs.Scopes.Names.{template_number}
use Rattle.tm_syntax.specs.Scopes.Declared.{declared, members}
use Rattle.tm_syntax.specs.Design.{InstanceNode, member_path, IsDeclared, IsSubtree, subtree, IsForest, none_left, one_more, AreInstances}
use Rattle.tm_syntax.specs.Faults.Names.{repeats}
use Rattle.tm_typing.proofs.Listed.{In, first_of, later_of, in_get, holds_in, one_thing}
use Rattle.tm_typing.proofs.Words.{IsWord, TemplateWords}
use Rattle.tm_design.proofs.Dots.{word_has_no_dot, last_part, member_there}
use Rattle.tm_design.proofs.Parts.{same_instances}

module _ (spec : SpecTree) (ns : List InstanceNode) where
  -- the instance of a number, with its template
  pub record IsSite (k : ℕ) (n : InstanceNode) (t : TemplateTree) : Type 0 where
    pub node : slice_get ns k ≡ Some n
    pub template : slice_get spec.templates n.template ≡ Some t

  -- an instance that an earlier one holds
  pub record IsHeld (k : ℕ) (n : InstanceNode) : Type 0 where
    pub at : ℕ
    pub before : at < k
    pub parent : InstanceNode
    pub template : TemplateTree
    pub site : IsSite at parent template
    pub instance : InstanceTree
    pub holds : In instance template.instances
    pub declared : IsDeclared spec parent template instance n

  mutual
    below_held : (at end : ℕ) → IsSubtree spec ns at end → (k : ℕ) (m : InstanceNode) → at < k → k < end →
        slice_get ns k ≡ Some m → IsHeld k m
    below_held at end (subtree {node = p} {t = t} is of all) k m low high there =
        forest_held at p t (record { node = is; template = of }) t.instances p.children (at + 1) end (λ i j. j) all k m
        low (omega arith) high there

    forest_held : (up : ℕ) (p : InstanceNode) (t : TemplateTree) → IsSite up p t → (is : List InstanceTree)
        (cs : List ℕ) (at end : ℕ) → ((i : InstanceTree) → In i is → In i t.instances) →
        IsForest spec ns p t is cs at end → (k : ℕ) (m : InstanceNode) → up < k → at ≤ k → k < end →
        slice_get ns k ≡ Some m → IsHeld k m
    forest_held up p t site is cs at end among none_left k m before low high there = absurd (omega arith)
    forest_held up p t site is cs at end among
        (one_more {child = n} {first = f} {others = o} {children = ds} {middle = c} here declared below others) k m
        before low high there =
        ⊎_elim
        (λ within. ⊎_elim
        (λ behind. below_held at c below k m behind within there)
        (λ not. let same : at ≡ k = omega arith in
        record {
          at = up;
          before = before;
          parent = p;
          template = t;
          site = site;
          instance = f;
          holds = among f first_of;
          declared = subst (IsDeclared spec p t f) (one_thing here (ap (slice_get ns) same ∙ there)) declared;
        })
        (cases_lt at k))
        (λ beyond. forest_held up p t site o ds c end (λ i j. among i (later_of j)) others k m before beyond high there)
        (cases_lt k c)

  module _ (roots : AreInstances spec ns) where
    -- the path of the first instance is empty
    first_path : (n : InstanceNode) → slice_get ns 0 ≡ Some n → n.path ≡ []
    first_path n here =
        one_thing refl (ap (option_map (λ (n : InstanceNode). n.path)) (sym here) ∙ roots.path)

    first_or_held : (k : ℕ) (n : InstanceNode) → slice_get ns k ≡ Some n → (k ≡ 0) ⊎ IsHeld k n
    first_or_held zero n here = inl refl
    first_or_held (suc k) n here =
        inr (below_held 0 (length ns) roots.all (suc k) n (omega arith) (slice_get_within ns (suc k) n here) here)

    module _ (once : (t : TemplateTree) → In t spec.templates → repeats (members t) ≡ [])
        (words : AllByRecursion TemplateWords spec.templates) where
      -- the template of a site stands in the text
      pub site_in : (k : ℕ) (n : InstanceNode) (t : TemplateTree) → IsSite k n t → In t spec.templates
      site_in k n t site = in_get spec.templates n.template site.template

      instance_word : (t : TemplateTree) → In t spec.templates → (i : InstanceTree) → In i t.instances → IsWord i.name
      instance_word t at i j =
          holds_in (λ (i : InstanceTree). IsWord i.name) t.instances
          (holds_in TemplateWords spec.templates words at).instances j

      held_word : (k : ℕ) (n : InstanceNode) (h : IsHeld k n) → IsWord h.instance.name
      held_word k n h =
          instance_word h.template (site_in h.at h.parent h.template h.site) h.instance h.holds

      -- instances of one path are of one template
      one_template : (bound j k : ℕ) (m n : InstanceNode) → j < bound → slice_get ns j ≡ Some m →
          slice_get ns k ≡ Some n → m.path ≡ n.path → m.template ≡ n.template
      one_template zero j k m n below at there same = absurd (omega arith)
      one_template (suc bound) j k m n below at there same =
          by (first_or_held j m at) (first_or_held k n there) (one_template bound)
        where
          by : (j ≡ 0) ⊎ IsHeld j m → (k ≡ 0) ⊎ IsHeld k n →
              ((j k : ℕ) (m n : InstanceNode) → j < bound → slice_get ns j ≡ Some m →
              slice_get ns k ≡ Some n → m.path ≡ n.path → m.template ≡ n.template) → m.template ≡ n.template
          by (inl first) (inl other) deeper =
              ap (λ (x : InstanceNode). x.template) (one_thing at (ap (slice_get ns) (first ∙ sym other) ∙ there))
          by (inl first) (inr h) deeper =
              member_there h.parent.path h.instance.name.text (held_word k n h)
              (sym h.declared.path ∙ sym same ∙ first_path m (ap (slice_get ns) (sym first) ∙ at))
          by (inr h) (inl other) deeper =
              member_there h.parent.path h.instance.name.text (held_word j m h)
              (sym h.declared.path ∙ same ∙ first_path n (ap (slice_get ns) (sym other) ∙ there))
          by (inr h) (inr g) deeper =
              let parts = last_part h.parent.path g.parent.path h.instance.name.text g.instance.name.text
              (word_has_no_dot h.instance.name.text (held_word j m h))
              (word_has_no_dot g.instance.name.text (held_word k n g))
              (sym h.declared.path ∙ same ∙ g.declared.path) in
              let of = deeper h.at g.at h.parent g.parent (omega (arith, h.before)) h.site.node g.site.node parts.0 in
              let templates : h.template ≡ g.template =
              one_thing h.site.template (ap (slice_get spec.templates) of ∙ g.site.template) in
              let one = same_instances h.template (once h.template (site_in h.at h.parent h.template h.site)) h.instance
              g.instance h.holds (subst (λ (t : TemplateTree). In g.instance t.instances) (sym templates) g.holds)
              parts.1 in
              one_thing h.declared.template
              (ap (λ (i : InstanceTree). template_number spec i.template.text) one ∙ g.declared.template)

      -- so sites of one path have one template
      pub same_template : (j k : ℕ) (m n : InstanceNode) (t u : TemplateTree) → IsSite j m t → IsSite k n u →
          m.path ≡ n.path → t ≡ u
      same_template j k m n t u at there same =
          one_thing at.template
          (ap (slice_get spec.templates) (one_template (suc j) j k m n (omega arith) at.node there.node same)
          ∙ there.template)

      -- where an instance has the path of a member of another one, it is held there
      pub child_there : (j k : ℕ) (m n : InstanceNode) (t u : TemplateTree) (name : List ℕ) → IsSite j m t →
          IsSite k n u → IsWordLike name → n.path ≡ member_path m.path name →
          (i : InstanceTree) × In i t.instances × (i.name.text ≡ name)
      child_there j k m n t u name at there word path = by (first_or_held k n there.node)
        where
          by : (k ≡ 0) ⊎ IsHeld k n → (i : InstanceTree) × In i t.instances × (i.name.text ≡ name)
          by (inl first) =
              member_there m.path name word
              (sym path ∙ first_path n (ap (slice_get ns) (sym first) ∙ there.node))
          by (inr h) =
              let parts = last_part h.parent.path m.path h.instance.name.text name
              (word_has_no_dot h.instance.name.text (held_word k n h)) (word_has_no_dot name word)
              (sym h.declared.path ∙ path) in
              let templates = same_template h.at j h.parent m h.template t h.site at parts.0 in
              (h.instance, subst (λ (x : TemplateTree). In h.instance x.instances) templates h.holds, parts.1)
