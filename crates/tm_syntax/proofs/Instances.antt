-- The instances of a design have the templates that the counts over a text go over.
use Rattle.std.proofs.Common.{◌≡◌, ℕ, zero, suc, ◌+◌, ◌<◌, Bool, true, false, Option, None, Some, List, [], ◌∷◌, ◌++◌, length, drop, refl, sym, ap, ◌∙◌, subst, arith, append_assoc, length-append, cond}
use Rattle.std.specs.Prelude.{◌||◌, max, Contains, unwrap_or, slice_get, sum_by, if◌then◌else◌, nat_eq, nat_lt, codes}
use Rattle.std.specs.Option.{option_map, option_map_or, option_to_list}
use Rattle.std.specs.Bool.{then_some}
use Rattle.std.specs.List.{AllByRecursion, IsDistinct, list_any, filter, filter_map, flat_map, position_or_len, enumerate_from, cons_option}
use Rattle.std.proofs.lemmas.List.Sums.{sum_by-append}
use Rattle.std.proofs.lemmas.List.Folds.{find_at}
use Rattle.std.proofs.lemmas.Map.Steps.{length-le_from_distinct_below}
use Rattle.std.proofs.lemmas.Bool.Decides.{nat_tests}
use mathlib.Core.Bool.{true≢false}
use Rattle.tm_syntax.specs.declared.tree.Ident.{Ident}
use Rattle.tm_syntax.specs.declared.design.Item.{Item}
use Rattle.tm_syntax.specs.Tree.{InstanceTree, NamedTree, ProcessTree, TaskTree, TemplateTree, SpecTree}
use Rattle.tm_syntax.specs.Scopes.Pauses.{is_controllable}
use Rattle.tm_syntax.specs.Scopes.Names.{is_spelled, template_number, template_named}
use Rattle.tm_syntax.specs.Scopes.Calls.{Holds, ReachesTemplate, directly, further}
use Rattle.tm_syntax.specs.Counts.Instances.{templates_below, instance_templates, count_instances, count_processes, count_goals, count_tasks, total}
use Rattle.tm_syntax.specs.Design.{InstanceNode, DesignTree, template_of, member_path, instance_items, all_items, with_goal, IsSubtree, subtree, IsForest, none_left, one_more, IsDesign}

drop_at : {X : Type 0} (xs : List X) (k : ℕ) (x : X) → slice_get xs k ≡ Some x → drop k xs ≡ x ∷ drop (suc k) xs
drop_at [] k x e = absurd (cc)
drop_at (y ∷ ys) zero x e = ap (λ o. unwrap_or o x ∷ ys) e
drop_at (y ∷ ys) (suc k) x e = drop_at ys k x e

drop_whole : {X : Type 0} (xs : List X) → drop (length xs) xs ≡ []
drop_whole [] = refl
drop_whole (x ∷ xs) = drop_whole xs

append_nothing : {X : Type 0} (xs : List X) → xs ++ [] ≡ xs
append_nothing [] = refl
append_nothing (x ∷ xs) = ap (λ l. x ∷ l) (append_nothing xs)

within : {X : Type 0} (xs : List X) (k : ℕ) (x : X) → slice_get xs k ≡ Some x → k < length xs
within [] k x e = absurd (cc)
within (y ∷ ys) zero x e = omega arith
within (y ∷ ys) (suc k) x e = let h = within ys k x e in omega arith

all_mapped : {X : Type 0} (P Q : X → Type 0) (xs : List X) → ((x : X) → P x → Q x) → AllByRecursion P xs →
    AllByRecursion Q xs
all_mapped P Q [] f all = tt
all_mapped P Q (x ∷ xs) f all = (f x all.0, all_mapped P Q xs f all.1)

each_contained : {X : Type 0} (xs : List X) → AllByRecursion (Contains xs) xs
each_contained [] = tt
each_contained (x ∷ xs) = (
  (0, (omega arith), refl),
  all_mapped (Contains xs) (Contains (x ∷ xs)) xs
      (λ y h. (suc h.0, (let bound = h.1 in omega arith), h.2)) (each_contained xs),
)

-- each number among some that are below a bound is
below_bound : (bound : ℕ) (xs : List ℕ) → AllByRecursion (λ x. x < bound) xs → (q : ℕ) →
    list_any (nat_eq q) xs ≡ true → q < bound
below_bound bound [] all q h = absurd (true≢false (sym h))
below_bound bound (x ∷ xs) all q h =
    by_first (nat_eq q x) refl (λ rest. below_bound bound xs all.1 q rest)
  where
    by_first : (b : Bool) → nat_eq q x ≡ b → (list_any (nat_eq q) xs ≡ true → q < bound) → q < bound
    by_first true e later = let first = all.0 in grind (arith, nat_tests)
    by_first false e later = later (sym (ap (λ b. b || list_any (nat_eq q) xs) e) ∙ h)

-- the template of a number is that of its name
named_is_numbered : (spec : SpecTree) (name : List ℕ) (m : ℕ) → template_number spec name ≡ Some m →
    template_named spec name ≡ slice_get spec.templates m
named_is_numbered spec name m e =
    find_at (λ (t : TemplateTree). is_spelled name t.name) spec.templates ∙ ap (slice_get spec.templates)
    (by_bound (nat_lt (position_or_len (λ (t : TemplateTree). is_spelled name t.name) spec.templates)
    (length spec.templates)) refl)
  where
    by_bound : (b : Bool) → nat_lt (position_or_len (λ (t : TemplateTree). is_spelled name t.name) spec.templates)
        (length spec.templates) ≡ b → position_or_len (λ (t : TemplateTree). is_spelled name t.name) spec.templates ≡ m
    by_bound true h =
        ap (λ o. unwrap_or o m) (sym (ap (λ b. cond b (Some (position_or_len (λ (t : TemplateTree).
        is_spelled name t.name) spec.templates)) None) h) ∙ e)
    by_bound false h =
        absurd (let none = sym (ap (λ b. cond b (Some (position_or_len (λ (t : TemplateTree).
        is_spelled name t.name) spec.templates)) None) h) ∙ e in cc)

-- what reaches a template that holds another one reaches that one
reach_on : (spec : SpecTree) (a b c : ℕ) → ReachesTemplate spec a b → Holds spec b c → ReachesTemplate spec a c
reach_on spec a b c (directly first) last = further first (directly last)
reach_on spec a b c (further {b = d} first rest) last = further first (reach_on spec d b c rest last)

module _ (spec : SpecTree) (ns : List InstanceNode) (acyclic : (t : ℕ) → ¬ ReachesTemplate spec t t) where
  -- a number that some numbers reach is none of them
  apart : (m : ℕ) (chain : List ℕ) → AllByRecursion (λ a. ReachesTemplate spec a m) chain →
      AllByRecursion (λ a. nat_eq m a ≡ false) chain
  apart m chain reach = all_mapped (λ a. ReachesTemplate spec a m) (λ a. nat_eq m a ≡ false) chain unequal reach
    where
      by : (a : ℕ) → ReachesTemplate spec a m → (b : Bool) → nat_eq m a ≡ b → nat_eq m a ≡ false
      by a reaches true e =
          let same : a ≡ m = grind (arith, nat_tests) in
          absurd (acyclic m (subst (λ a. ReachesTemplate spec a m) same reaches))
      by a reaches false e = e

      unequal : (a : ℕ) → ReachesTemplate spec a m → nat_eq m a ≡ false
      unequal a reaches = by a reaches (nat_eq m a) refl

  -- the templates of instances
  listed : List InstanceNode → List TemplateTree
  listed nodes = flat_map (template_of spec) nodes

  -- the templates of the instances that a template declares, and of all below them
  declared_below : ℕ → List InstanceTree → List TemplateTree
  declared_below depth is =
      flat_map (λ (i : InstanceTree).
      option_map_or (templates_below depth spec) (template_named spec i.template.text) []) is

  too_deep : (n : ℕ) (t : TemplateTree) (chain : List ℕ) → slice_get spec.templates n ≡ Some t →
      IsDistinct nat_eq (n ∷ chain) → AllByRecursion (λ a. a < length spec.templates) chain →
      length chain + 0 ≡ length spec.templates → ⊥
  too_deep n t chain of distinct bounds fuel =
      let most = length-le_from_distinct_below (n ∷ chain) (length spec.templates) distinct
      (below_bound (length spec.templates) (n ∷ chain) (within spec.templates n t of, bounds)) in
      omega arith

  mutual
    unfolding listed declared_below IsDistinct

    -- what stands from an instance on: those below it, and then the rest
    below_lists : (depth : ℕ) (chain : List ℕ) (at end : ℕ) (node : InstanceNode) → slice_get ns at ≡ Some node →
        IsDistinct nat_eq (node.template ∷ chain) →
        AllByRecursion (λ a. a < length spec.templates) chain →
        AllByRecursion (λ a. ReachesTemplate spec a node.template) chain →
        length chain + depth ≡ length spec.templates → IsSubtree spec ns at end →
        listed (drop at ns)
        ≡ option_map_or (templates_below depth spec) (slice_get spec.templates node.template) []
        ++ listed (drop end ns)
    below_lists zero chain at end node here distinct bounds reach fuel (subtree {node = p} {t = t} is of all) =
        let same : p ≡ node = ap (λ o. unwrap_or o p) (sym is ∙ here) in
        absurd (too_deep node.template t chain
        (subst (λ (p : InstanceNode). slice_get spec.templates p.template ≡ Some t)
        same of) distinct bounds fuel)
    below_lists (suc depth) chain at end node here distinct bounds reach fuel (subtree {node = p} {t = t} is of all) =
        let same : p ≡ node = ap (λ o. unwrap_or o p) (sym is ∙ here) in
        let found : slice_get spec.templates node.template ≡ Some t =
        subst (λ (p : InstanceNode). slice_get spec.templates p.template ≡ Some t) same of in
        let room : length (node.template ∷ chain) + depth ≡ length spec.templates = omega arith in
        let next : suc at ≡ at + 1 = omega arith in
        let under = forest_lists depth chain node.template t p t.instances p.children (at + 1) end found
        (each_contained t.instances) distinct (within spec.templates node.template t found, bounds) reach room all in
        ap listed (drop_at ns at p is)
        ∙ (λ i. option_to_list (of i) ++ listed (drop (next i) ns))
        ∙ ap (λ l. t ∷ l) under
        ∙ (λ i. option_map_or (templates_below (suc depth) spec) (sym found i) [] ++ listed (drop end ns))

    forest_lists : (depth : ℕ) (chain : List ℕ) (n : ℕ) (t : TemplateTree) (p : InstanceNode) (is : List InstanceTree)
        (cs : List ℕ) (at end : ℕ) → slice_get spec.templates n ≡ Some t → AllByRecursion (Contains t.instances) is →
        IsDistinct nat_eq (n ∷ chain) → AllByRecursion (λ a. a < length spec.templates) (n ∷ chain) →
        AllByRecursion (λ a. ReachesTemplate spec a n) chain → length (n ∷ chain) + depth ≡ length spec.templates →
        IsForest spec ns p t is cs at end →
        listed (drop at ns) ≡ declared_below depth is ++ listed (drop end ns)
    forest_lists depth chain n t p is cs at end found contained distinct bounds reach room none_left = refl
    forest_lists depth chain n t p is cs at end found contained distinct bounds reach room
        (one_more {child = m} {first = f} {others = o} {children = ds} {middle = c} here declared below others) =
        let holds : Holds spec n m.template =
        record { template = t; instance = f; is = found; holds = contained.0; leads = declared.template } in
        let reached : AllByRecursion (λ a. ReachesTemplate spec a m.template) (n ∷ chain) = (
          directly holds,
          all_mapped (λ a. ReachesTemplate spec a n) (λ a. ReachesTemplate spec a m.template) chain
              (λ a reaches. reach_on spec a n m.template reaches holds) reach,
        ) in
        let first = below_lists depth (n ∷ chain) at c m here (apart m.template (n ∷ chain) reached, distinct) bounds
        reached room below in
        let rest = forest_lists depth chain n t p o ds c end found contained.1 distinct bounds reach room others in
        let named = named_is_numbered spec f.template.text m.template declared.template in
        first
        ∙ (λ i. option_map_or (templates_below depth spec) (sym named i) [] ++ rest i)
        ∙ sym (append_assoc (option_map_or (templates_below depth spec) (template_named spec f.template.text) [])
        (declared_below depth o) (listed (drop end ns)))

-- the templates of a design's instances are those that the counts over its text go over
pub templates_agree : (d : DesignTree) → ((t : ℕ) → ¬ ReachesTemplate d.spec t t) → IsDesign d →
    flat_map (template_of d.spec) d.instances ≡ instance_templates d.spec
unfolding listed IsDistinct
templates_agree d acyclic design = of_root (slice_get d.instances 0) refl
  where
    of_root : (root : Option InstanceNode) → slice_get d.instances 0 ≡ root →
        flat_map (template_of d.spec) d.instances ≡ instance_templates d.spec
    of_root None here = let e = design.instances.path in let h = here in absurd (cc)
    of_root (Some n) here =
        let number : template_number d.spec (codes "main") ≡ Some n.template =
        design.instances.template ∙ ap (option_map (λ (n : InstanceNode). n.template)) here in
        let whole = below_lists d.spec d.instances acyclic (length d.spec.templates) [] 0 (length d.instances) n here
        (tt, tt) tt tt (omega arith) design.instances.all in
        whole
        ∙ (λ i. option_map_or (templates_below (length d.spec.templates) d.spec)
        (sym (named_is_numbered d.spec (codes "main") n.template number) i) []
        ++ flat_map (template_of d.spec) (drop_whole d.instances i))
        ∙ append_nothing (instance_templates d.spec)

module _ {X : Type 0} (counts : X → Bool) where
  kept_count : (item : ℕ × X → Item) (k : ℕ) (xs : List X) →
      length (filter_map (λ (x : ℕ × X). then_some (counts x.1) (item x)) (enumerate_from k xs))
      ≡ length (filter counts xs)
  kept_count item k [] = refl
  kept_count item k (x ∷ xs) = by (counts x) (kept_count item (k + 1) xs)
    where
      by : (b : Bool) → length (filter_map (λ (x : ℕ × X). then_some (counts x.1) (item x)) (enumerate_from (k + 1) xs))
          ≡ length (filter counts xs) →
          length (cons_option (then_some b (item (k, x)))
          (filter_map (λ (x : ℕ × X). then_some (counts x.1) (item x)) (enumerate_from (k + 1) xs)))
          ≡ length (if b then (x ∷ filter counts xs) else filter counts xs)
      by true e = ap suc e
      by false e = e

zero_plus : (n : ℕ) → n ≡ 0 + n
zero_plus n = omega arith

-- an item that an instance holds
abbrev held_item : {X : Type 0} → (X → Ident) → InstanceNode → ℕ → ℕ × X → Item
held_item name n i x = record { path = member_path n.path (name x.1).text; instance = i; index = Some x.0 }

-- the items of a sort that a design's instances hold are counted by their templates
items_counted : {X : Type 0} (sort : TemplateTree → List X) (counts : X → Bool) (name : X → Ident) (spec : SpecTree)
    (k : ℕ) (nodes : List InstanceNode) →
    length (flat_map (instance_items sort counts name spec) (enumerate_from k nodes))
    ≡ sum_by (λ t. length (filter counts (sort t))) (flat_map (template_of spec) nodes)
items_counted sort counts name spec k [] = refl
items_counted {X} sort counts name spec k (n ∷ nodes) =
    length-append (instance_items sort counts name spec (k, n))
    (flat_map (instance_items sort counts name spec) (enumerate_from (k + 1) nodes))
    ∙ (λ i. of_one (slice_get spec.templates n.template) i + items_counted sort counts name spec (k + 1) nodes i)
    ∙ sym (sum_by-append (λ t. length (filter counts (sort t))) (template_of spec n)
    (flat_map (template_of spec) nodes))
  where
    kept : TemplateTree → List Item
    kept t =
        filter_map (λ (x : ℕ × X). then_some (counts x.1) (held_item name n k x)) (enumerate_from 0 (sort t))

    of_one : (t : Option TemplateTree) → length (flat_map kept (option_to_list t))
        ≡ sum_by (λ t. length (filter counts (sort t))) (option_to_list t)
    of_one None = refl
    of_one (Some t) =
        ap length (append_nothing (kept t)) ∙ kept_count counts (held_item name n k) 0 (sort t)
        ∙ zero_plus (length (filter counts (sort t)))

all_kept : {X : Type 0} (xs : List X) → filter (λ _. true) xs ≡ xs
all_kept [] = refl
all_kept (x ∷ xs) = ap (λ l. x ∷ l) (all_kept xs)

-- the processes of a design are as many as are counted
pub processes_counted : (d : DesignTree) → ((t : ℕ) → ¬ ReachesTemplate d.spec t t) → IsDesign d →
    length d.processes ≡ count_processes d.spec
processes_counted d acyclic design =
    ap length design.processes
    ∙ items_counted (λ t. t.processes) (λ _. true) (λ (p : ProcessTree). p.name) d.spec 0 d.instances
    ∙ ap (sum_by (λ (t : TemplateTree). length (filter (λ _. true) t.processes))) (templates_agree d acyclic design)
    ∙ (λ i. sum_by (λ (t : TemplateTree). length (all_kept t.processes i)) (instance_templates d.spec))

-- the controllable tasks of a design are as many as are counted
pub tasks_counted : (d : DesignTree) → ((t : ℕ) → ¬ ReachesTemplate d.spec t t) → IsDesign d →
    length d.tasks ≡ count_tasks d.spec
tasks_counted d acyclic design =
    ap length design.tasks
    ∙ items_counted (λ t. t.tasks) (λ (k : TaskTree). is_controllable k.kind) (λ (k : TaskTree). k.name) d.spec 0
    d.instances
    ∙ ap (sum_by (λ (t : TemplateTree). length (filter (λ (k : TaskTree). is_controllable k.kind) t.tasks)))
    (templates_agree d acyclic design)

module _ (spec : SpecTree) (ns : List InstanceNode) where
  -- each instance has one template
  mutual
    below_length : (at end : ℕ) → IsSubtree spec ns at end →
        length (drop at ns) + length (flat_map (template_of spec) (drop end ns))
        ≡ length (flat_map (template_of spec) (drop at ns)) + length (drop end ns)
    below_length at end (subtree {node = p} {t = t} is of all) =
        let under = forest_length p t t.instances p.children (at + 1) end all in
        let next : suc at ≡ at + 1 = omega arith in
        let here = ap length (drop_at ns at p is ∙ ap (λ k. p ∷ drop k ns) next) in
        let there : length (flat_map (template_of spec) (drop at ns))
        ≡ suc (length (flat_map (template_of spec) (drop (at + 1) ns))) =
        ap (λ nodes. length (flat_map (template_of spec) nodes))
        (drop_at ns at p is ∙ ap (λ k. p ∷ drop k ns) next)
        ∙ (λ i. length (option_to_list (of i) ++ flat_map (template_of spec) (drop (at + 1) ns))) in
        omega arith

    forest_length : (p : InstanceNode) (t : TemplateTree) (is : List InstanceTree) (cs : List ℕ) (at end : ℕ) →
        IsForest spec ns p t is cs at end →
        length (drop at ns) + length (flat_map (template_of spec) (drop end ns))
        ≡ length (flat_map (template_of spec) (drop at ns)) + length (drop end ns)
    forest_length p t is cs at end none_left = omega arith
    forest_length p t is cs at end (one_more {others = o} {children = ds} {middle = c} _ _ below others) =
        let first = below_length at c below in
        let rest = forest_length p t o ds c end others in
        omega arith

-- the instances of a design are as many as are counted
pub instances_counted : (d : DesignTree) → ((t : ℕ) → ¬ ReachesTemplate d.spec t t) → IsDesign d →
    length d.instances ≡ count_instances d.spec
instances_counted d acyclic design =
    let whole = below_length d.spec d.instances 0 (length d.instances) design.instances.all in
    let nothing = drop_whole d.instances in
    let none = ap length nothing in
    let none_listed = ap (λ nodes. length (flat_map (template_of d.spec) nodes)) nothing in
    let templates = ap length (templates_agree d acyclic design) in
    omega arith

with_goal_counted : (items : List Item) → length (with_goal items) ≡ max 1 (length items)
with_goal_counted [] = refl
with_goal_counted (g ∷ gs) = omega arith

-- the goals of a design are as many as are counted, or one
pub goals_counted : (d : DesignTree) → ((t : ℕ) → ¬ ReachesTemplate d.spec t t) → IsDesign d →
    length d.goals ≡ max 1 (count_goals d.spec)
goals_counted d acyclic design =
    ap length design.goals
    ∙ with_goal_counted (all_items (λ t. t.goals) (λ _. true) (λ (g : NamedTree). g.name) d.spec d.instances)
    ∙ ap (max 1) (items_counted (λ t. t.goals) (λ _. true) (λ (g : NamedTree). g.name) d.spec 0 d.instances
    ∙ ap (sum_by (λ (t : TemplateTree). length (filter (λ _. true) t.goals))) (templates_agree d acyclic design)
    ∙ (λ i. sum_by (λ (t : TemplateTree). length (all_kept t.goals i)) (instance_templates d.spec)))

-- the declared fairness conditions of a design are as many as are counted
pub fairs_counted : (d : DesignTree) → ((t : ℕ) → ¬ ReachesTemplate d.spec t t) → IsDesign d →
    length d.fairs ≡ total d.spec (λ t. length t.fairs)
fairs_counted d acyclic design =
    ap length design.fairs
    ∙ items_counted (λ t. t.fairs) (λ _. true) (λ (f : NamedTree). f.name) d.spec 0 d.instances
    ∙ ap (sum_by (λ (t : TemplateTree). length (filter (λ _. true) t.fairs))) (templates_agree d acyclic design)
    ∙ (λ i. sum_by (λ (t : TemplateTree). length (all_kept t.fairs i)) (instance_templates d.spec))
