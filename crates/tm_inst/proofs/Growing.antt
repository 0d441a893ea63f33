-- How the list of instances grows by an instance and all below it.
use Rattle.std.proofs.Common.{◌≡◌, ℕ, zero, suc, ◌+◌, ◌<◌, ◌≤◌, Some, List, [], ◌∷◌, ◌++◌, append_assoc, length, length-append, get_or, map, slice_get, refl, sym, ap, ◌∙◌, subst, arith}
use Rattle.std.specs.Prelude.{sum_by}
use Rattle.std.specs.List.{AllByRecursion}
use Rattle.std.proofs.lemmas.List.{append-nil}
use Rattle.std.proofs.lemmas.List.Sums.{sum_by-cons}
use Rattle.tm_syntax.specs.declared.tree.InstanceDef.{InstanceDef}
use Rattle.tm_syntax.specs.Tree.View.{instance_tree}
use Rattle.tm_syntax.specs.Tree.{InstanceTree, SpecTree, TemplateTree}
use Rattle.tm_syntax.specs.Design.{InstanceNode, IsForest, none_left, one_more, subtree}
use Rattle.tm_inst.specs.Inner.Growth.{Grows, HasGrown, HasHeld, HoldsAt, offsets}
use Rattle.std.specs.Option.{option_map_or}
use Rattle.std.proofs.lemmas.Option.{get_or_from_slice_get}
use Rattle.tm_syntax.specs.Scopes.Names.{template_number}
use Rattle.tm_inst.specs.Instances.{AreSizes, IsHeld, held_size}
use Rattle.tm_inst.specs.Sizes.{number_limit}

-- the number of instances that a template declares does not change by numbering them
pub offsets_are_as_many : (spec : SpecTree) (sizes : List ℕ) (at : ℕ) (held : List InstanceTree) →
    length (offsets spec sizes at held) ≡ length held
offsets_are_as_many spec sizes at [] = refl
offsets_are_as_many spec sizes at (i ∷ is) = ap suc (offsets_are_as_many spec sizes (at + held_size spec sizes i) is)

-- what stands at the end of a list stands there with more behind it
stands_before : (old more : List InstanceNode) (node : InstanceNode) →
    slice_get ((old ++ node ∷ []) ++ more) (length old) ≡ Some node
stands_before [] more node = refl
stands_before (x ∷ old) more node = stands_before old more node

-- what stands in a list stands there with more behind it
pub stands_still : (xs ys : List InstanceNode) (k : ℕ) (x : InstanceNode) → slice_get xs k ≡ Some x →
    slice_get (xs ++ ys) k ≡ Some x
stands_still [] ys k x at = absurd (cc)
stands_still (y ∷ xs) ys zero x at = at
stands_still (y ∷ xs) ys (suc k) x at = stands_still xs ys k x at

-- the instance stands behind the others
pub node_stands : {spec : SpecTree} {sizes : List ℕ} {old now : List InstanceNode} {t : TemplateTree}
    {template size : ℕ}
    {path ports : List ℕ} {left : List InstanceTree} →
    (grows : Grows spec sizes old now t template size path ports left) → slice_get now (length old) ≡ Some grows.node
node_stands {old = old} grows =
    ap (λ ns. slice_get ns (length old)) grows.behind ∙ stands_before old grows.more grows.node

-- at the beginning all that it holds is left
pub grows_at_first : (spec : SpecTree) (sizes : List ℕ) (old now : List InstanceNode) (t : TemplateTree)
    (template size : ℕ) (path ports : List ℕ) (node : InstanceNode) → now ≡ old ++ node ∷ [] → node.template
    ≡ template →
    node.path ≡ path → node.ports ≡ ports → node.children ≡ offsets spec sizes (length old + 1) t.instances →
    size ≡ 1 + sum_by (held_size spec sizes) t.instances → slice_get spec.templates template ≡ Some t →
    Grows spec sizes old now t template size path ports t.instances
grows_at_first spec sizes old now t template size path ports node pushed template_is path_is ports_are children_are
    sized of_template =
    let long : length now ≡ length old + 1 = ap length pushed ∙ length-append old (node ∷ []) in
    record {
      node = node;
      more = [];
      of_template = of_template;
      behind = pushed ∙ sym (append-nil (old ++ node ∷ []));
      template_is = template_is;
      path_is = path_is;
      ports_are = ports_are;
      children_are = children_are;
      room = (let total = sum_by (held_size spec sizes) t.instances in omega (arith, long, sized));
      forest = λ rest end whole.
          subst (λ n. IsForest spec (now ++ rest) node t t.instances node.children n end) long
          (subst (λ cs. IsForest spec (now ++ rest) node t t.instances cs (length now) end)
          (ap (λ n. offsets spec sizes n t.instances) long ∙ sym children_are) whole);
    }

-- one that it holds is put behind
pub grows_more : (spec : SpecTree) (sizes : List ℕ) (old now new : List InstanceNode) (t : TemplateTree)
    (template size : ℕ) (path ports : List ℕ) (i : InstanceTree) (left : List InstanceTree) →
    (grows : Grows spec sizes old now t template size path ports (i ∷ left)) →
    HasHeld spec now new grows.node t i (held_size spec sizes i) →
    Grows spec sizes old new t template size path ports left
grows_more spec sizes old now new t template size path ports i left grows held =
    let long : length new ≡ length now + held_size spec sizes i =
    ap length held.behind ∙ length-append now held.added ∙ ap (λ n. length now + n) held.many in
    let total = sum_by-cons (held_size spec sizes) i left in
    let before = grows.room in
    record {
      node = grows.node;
      more = grows.more ++ held.added;
      of_template = grows.of_template;
      behind = held.behind ∙ ap (λ ns. ns ++ held.added) grows.behind
          ∙ append_assoc (old ++ grows.node ∷ []) grows.more held.added;
      template_is = grows.template_is;
      path_is = grows.path_is;
      ports_are = grows.ports_are;
      children_are = grows.children_are;
      room = omega (arith, long, total, before);
      forest = λ rest end whole.
          let whole_list : now ++ (held.added ++ rest) ≡ new ++ rest =
          sym (append_assoc now held.added rest) ∙ ap (λ ns. ns ++ rest) (sym held.behind) in
          let here : slice_get (new ++ rest) (length now) ≡ Some held.child = stands_still new rest
          (length now) held.child held.first in
          subst (λ ns. IsForest spec ns grows.node t t.instances grows.node.children (length old + 1) end) whole_list
          (grows.forest (held.added ++ rest) end
          (subst (λ ns. IsForest spec ns grows.node t (i ∷ left) (offsets spec sizes (length now) (i ∷ left))
          (length now) end)
          (sym whole_list)
          (one_more here held.declared (held.below rest)
          (subst (λ n. IsForest spec (new ++ rest) grows.node t left (offsets spec sizes n left) (length new) end) long
          whole))));
    }

-- at the end it stands behind the others with all below it
pub grows_to_the_end : (spec : SpecTree) (sizes : List ℕ) (old now : List InstanceNode) (t : TemplateTree)
    (template size : ℕ) (path ports : List ℕ) →
    Grows spec sizes old now t template size path ports [] → HasGrown spec old now template size path ports
grows_to_the_end spec sizes old now t template size path ports grows =
    let behind : now ≡ old ++ (grows.node ∷ grows.more) =
    grows.behind ∙ append_assoc old (grows.node ∷ []) grows.more in
    let long = ap length behind ∙ length-append old (grows.node ∷ grows.more) in
    let room = grows.room in
    record {
      added = grows.node ∷ grows.more;
      node = grows.node;
      behind = behind;
      many = omega (arith, long, room);
      first = node_stands grows;
      template_is = grows.template_is;
      path_is = grows.path_is;
      ports_are = grows.ports_are;
      below = λ rest.
          subtree
          (ap (λ ns. slice_get (ns ++ rest) (length old)) grows.behind
          ∙ ap (λ ns. slice_get ns (length old)) (append_assoc (old ++ grows.node ∷ []) grows.more rest)
          ∙ stands_before old (grows.more ++ rest) grows.node)
          (ap (slice_get spec.templates) grows.template_is ∙ grows.of_template)
          (grows.forest rest (length now) none_left);
    }

-- the first of some instances that another one holds stand behind others, with all below them
pub record HeldSoFar (spec : SpecTree) (sizes : List ℕ) (holder : ℕ) (initial now : List InstanceNode)
    (all left : List InstanceTree) : Type 0 where
  pub more : List InstanceNode
  pub behind : now ≡ initial ++ more
  pub room : length now + sum_by (held_size spec sizes) left ≡ length initial + sum_by (held_size spec sizes) all
  pub grows : (old : List InstanceNode) (t : TemplateTree) (template size : ℕ) (path ports : List ℕ) → length old
      ≡ holder →
      Grows spec sizes old initial t template size path ports all →
      Grows spec sizes old now t template size path ports left

-- at the beginning none of them does
pub none_held : (spec : SpecTree) (sizes : List ℕ) (holder : ℕ) (initial : List InstanceNode)
    (all : List InstanceTree) →
    HeldSoFar spec sizes holder initial initial all all
none_held spec sizes holder initial all = record {
  more = [];
  behind = sym (append-nil initial);
  room = refl;
  grows = λ old t template size path ports here grows. grows;
}

-- where an instance may hold another one, it may while more stands behind it
pub holds_still : (spec : SpecTree) (initial now more : List InstanceNode) (holder : ℕ) (i : InstanceTree) →
    now ≡ initial ++ more → HoldsAt spec initial holder i → HoldsAt spec now holder i
holds_still spec initial now more holder i behind holds = record {
  node = holds.node;
  template = holds.template;
  is = ap (λ ns. slice_get ns holder) behind ∙ stands_still initial more holder holds.node holds.is;
  template_is = holds.template_is;
  declares = holds.declares;
  children = holds.children;
  ports = holds.ports;
}

-- one more of them does
pub held_more : (spec : SpecTree) (sizes : List ℕ) (holder : ℕ) (initial now new : List InstanceNode)
    (all left before : List InstanceTree) (i : InstanceTree) → before ≡ i ∷ left → HoldsAt spec now holder i →
    ((parent : InstanceNode) (t : TemplateTree) → slice_get now holder ≡ Some parent →
    slice_get spec.templates parent.template ≡ Some t →
    HasHeld spec now new parent t i (held_size spec sizes i)) →
    HeldSoFar spec sizes holder initial now all before → HeldSoFar spec sizes holder initial new all left
held_more spec sizes holder initial now new all left before i split holds held so_far =
    let one = held holds.node holds.template holds.is holds.template_is in
    let long : length new ≡ length now + held_size spec sizes i =
    ap length one.behind ∙ length-append now one.added ∙ ap (λ n. length now + n) one.many in
    let total = ap (sum_by (held_size spec sizes)) split ∙ sum_by-cons (held_size spec sizes) i left in
    let room = so_far.room in
    record {
      more = so_far.more ++ one.added;
      behind = one.behind ∙ ap (λ ns. ns ++ one.added) so_far.behind ∙ append_assoc initial so_far.more one.added;
      room = omega (arith, long, total, room);
      grows = λ old t template size path ports here begun.
          let grows = subst (λ is. Grows spec sizes old now t template size path ports is) split
          (so_far.grows old t template size path ports here begun) in
          grows_more spec sizes old now new t template size path ports i left grows
          (held grows.node t (ap (slice_get now) (sym here) ∙ node_stands grows)
          (ap (slice_get spec.templates) grows.template_is ∙ grows.of_template));
    }

-- an instance is no larger than all those that stand beside it
pub held_within : (spec : SpecTree) (sizes : List ℕ) (held : List InstanceDef) (k : ℕ) (x : InstanceDef) →
    k < length held → x ≡ get_or held k x →
    held_size spec sizes (instance_tree x) ≤ sum_by (held_size spec sizes) (map instance_tree held)
held_within spec sizes [] k x within is = absurd (omega (arith, within))
held_within spec sizes (y ∷ held) zero x within is =
    let sum = sum_by-cons (held_size spec sizes) (instance_tree y) (map instance_tree held) in
    let same = ap (λ z. held_size spec sizes (instance_tree z)) is in
    omega (arith, sum, same)
held_within spec sizes (y ∷ held) (suc k) x within is =
    let sum = sum_by-cons (held_size spec sizes) (instance_tree y) (map instance_tree held) in
    let below = held_within spec sizes held k x (omega (arith, within)) is in
    omega (arith, sum, below)

-- what holds of all holds of each
pub all_at : (P : InstanceTree → Type 0) (held : List InstanceDef) (k : ℕ) (x : InstanceDef) →
    AllByRecursion P (map instance_tree held) → k < length held → x ≡ get_or held k x → P (instance_tree x)
all_at P [] k x all within is = absurd (omega (arith, within))
all_at P (y ∷ held) zero x all within is = subst (λ z. P (instance_tree z)) (sym is) all.0
all_at P (y ∷ held) (suc k) x all within is = all_at P held k x all.1 (omega (arith, within)) is

-- ---- what a template declares, in the instance that holds it

-- a template whose size is told is as large as what it holds and one more
pub size_is : (spec : SpecTree) (sizes : List ℕ) (k : ℕ) (t : TemplateTree) → AreSizes spec sizes →
    slice_get spec.templates k ≡ Some t → get_or sizes k 0 < number_limit →
    get_or sizes k 0 ≡ 1 + sum_by (held_size spec sizes) t.instances
size_is spec sizes k t sized is few =
    get_or_from_slice_get sizes k (1 + sum_by (held_size spec sizes) t.instances) 0 (sized k t is few)

-- an instance of a template of a number is as large as that template
pub held_size_is : (spec : SpecTree) (sizes : List ℕ) (i : InstanceTree) (k : ℕ) →
    template_number spec i.template.text ≡ Some k → held_size spec sizes i ≡ get_or sizes k 0
held_size_is spec sizes i k named = ap (λ o. option_map_or (λ n. get_or sizes n 0) o 0) named

-- an instance may hold each that its template declares
pub each_may_be_held : (spec : SpecTree) (nodes : List InstanceNode) (holder : ℕ) (node : InstanceNode)
    (t : TemplateTree) →
    slice_get nodes holder ≡ Some node → slice_get spec.templates node.template ≡ Some t →
    length node.children ≡ length t.instances → length node.ports ≡ length t.ports → (held : List InstanceTree) →
    AllByRecursion (IsHeld spec t) held → AllByRecursion (HoldsAt spec nodes holder) held
each_may_be_held spec nodes holder node t is template_is children ports [] all = tt
each_may_be_held spec nodes holder node t is template_is children ports (i ∷ held) all = (
  record {
    node = node;
    template = t;
    is = is;
    template_is = template_is;
    declares = all.0;
    children = children;
    ports = ports;
  },
  each_may_be_held spec nodes holder node t is template_is children ports held all.1,
)
