-- A tree has one design at most: its instances in preorder are determined, and all else follows from them.
use Rattle.std.proofs.Common.{◌≡◌, ℕ, zero, suc, ◌+◌, ◌<◌, ◌≤◌, Bool, true, false, Option, None, Some, List, [], ◌∷◌, length, refl, sym, ap, ◌∙◌, subst, arith, nat_lt, inl, inr, ⊎_elim}
use Rattle.std.proofs.lemmas.Bool.Decides.{nat_tests}
use Rattle.std.specs.Prelude.{◌⊎◌, unwrap_or, slice_get, map}
use Rattle.std.specs.Option.{option_map}
use Rattle.std.specs.List.{filter_map, flat_map, enumerate_from}
use Rattle.tm_syntax.specs.Tree.{InstanceTree, TemplateTree, SpecTree, ProcessTree, TaskTree, NamedTree}
use Rattle.tm_syntax.specs.Scopes.Names.{template_number}
use Rattle.tm_syntax.specs.Scopes.Pauses.{is_controllable}
use Rattle.tm_syntax.specs.Design.{InstanceNode, DesignTree, neighbor, member_path, IsDeclared, IsSubtree, subtree, IsForest, none_left, one_more, AreInstances, IsDesign, instance_vars, all_items, with_goal}

same_some : {X : Type 0} (x y : X) (o p : Option X) → o ≡ Some x → p ≡ Some y → o ≡ p → x ≡ y
same_some x y o p one other same = ap (λ q. unwrap_or q x) (sym one ∙ same ∙ other)

some_map : {X : Type 0} (xs : List X) → filter_map (λ o. o) (map Some xs) ≡ xs
some_map [] = refl
some_map (x ∷ xs) = ap (λ l. x ∷ l) (some_map xs)

same_map : {X : Type 0} (xs ys : List X) → map Some xs ≡ map Some ys → xs ≡ ys
same_map xs ys e = sym (some_map xs) ∙ ap (filter_map (λ o. o)) e ∙ some_map ys

first_of : {X : Type 0} → X → List X → X
first_of d [] = d
first_of d (x ∷ xs) = x

rest_of : {X : Type 0} → List X → List X
rest_of [] = []
rest_of (x ∷ xs) = xs

first_same : {X : Type 0} (x y : X) (xs ys : List X) → x ∷ xs ≡ y ∷ ys → x ≡ y
unfolding first_of
first_same x y xs ys e = ap (first_of x) e

rest_same : {X : Type 0} (x y : X) (xs ys : List X) → x ∷ xs ≡ y ∷ ys → xs ≡ ys
unfolding rest_of
rest_same x y xs ys e = ap rest_of e

nil_cons : {X : Type 0} (x : X) (xs : List X) → [] ≡ x ∷ xs → ⊥
nil_cons x xs e = cc

module _ (spec : SpecTree) (ns ms : List InstanceNode) where
  -- the children of an instance and the end of what lies below it are determined by its template
  mutual
    same_below : (at end bt fin : ℕ) (n m : InstanceNode) → slice_get ns at ≡ Some n → slice_get ms bt ≡ Some m →
        n.template ≡ m.template → at ≡ bt → IsSubtree spec ns at end → IsSubtree spec ms bt fin →
        (n.children ≡ m.children) × (end ≡ fin)
    same_below at end bt fin n m here there same place (subtree {node = p} {t = t} is of all)
        (subtree {node = q} {t = u} is' of' all') =
        let left : n ≡ p = same_some n p _ _ here is refl in
        let right : m ≡ q = same_some m q _ _ there is' refl in
        let template : t ≡ u =
        same_some t u _ _ of of' (ap (slice_get spec.templates) (ap (λ n. n.template) (sym left) ∙ same
        ∙ ap (λ n. n.template) right)) in
        let below = same_forest p q t u t.instances u.instances p.children q.children (at + 1) end (bt + 1) fin
        (ap (λ t. t.instances) template) (ap (λ n. n + 1) place) all all' in
        (ap (λ n. n.children) left ∙ below.0 ∙ ap (λ n. n.children) (sym right), below.1)

    same_forest : (p q : InstanceNode) (t u : TemplateTree) (one other : List InstanceTree) (cs ds : List ℕ)
        (at end bt fin : ℕ) → one ≡ other → at ≡ bt → IsForest spec ns p t one cs at end →
        IsForest spec ms q u other ds bt fin → (cs ≡ ds) × (end ≡ fin)
    same_forest p q t u one other cs ds at end bt fin same place none_left none_left = (refl, place)
    same_forest p q t u one other cs ds at end bt fin same place none_left
        (one_more {first = f} {others = o} _ _ _ _) = absurd (nil_cons f o same)
    same_forest p q t u one other cs ds at end bt fin same place (one_more {first = f} {others = o} _ _ _ _)
        none_left = absurd (nil_cons f o (sym same))
    same_forest p q t u one other cs ds at end bt fin same place
        (one_more {child = n} {first = f} {others = o} {children = cs'} {middle = c} is declared below others)
        (one_more {child = m} {first = g} {others = r} {children = ds'} {middle = d} is' declared' below' others') =
        let head : f ≡ g = first_same f g o r same in
        let template = same_some n.template m.template _ _ declared.template declared'.template
        (ap (λ f. template_number spec f.template.text) head) in
        let under = same_below at c bt d n m is is' template place below below' in
        let after = same_forest p q t u o r cs' ds' c end d fin (rest_same f g o r same) under.1 others others' in
        (λ i. place i ∷ after.0 i, after.1)

-- two lists have the same items from one index to another one
abbrev AgreeOn : List InstanceNode → List InstanceNode → ℕ → ℕ → Type 0
AgreeOn ns ms low high = (k : ℕ) → low ≤ k → k < high → slice_get ns k ≡ slice_get ms k

-- whether one of two numbers is reached, or the other one is passed
below_or_not : (k n : ℕ) → (k < n) ⊎ (n ≤ k)
below_or_not k n = trichotomy (nat_lt k n) refl
  where
    trichotomy : (b : Bool) → nat_lt k n ≡ b → (k < n) ⊎ (n ≤ k)
    trichotomy true e = inl (grind (arith, nat_tests))
    trichotomy false e = inr (grind (arith, nat_tests))

module _ (spec : SpecTree) (ns ms : List InstanceNode) where
  -- what an instance holds is determined by itself and its template
  child_same : (p q : InstanceNode) (t u : TemplateTree) (f g : InstanceTree) (n m : InstanceNode) → p ≡ q → t ≡ u →
      f ≡ g → IsDeclared spec p t f n → IsDeclared spec q u g m → n.children ≡ m.children → n ≡ m
  child_same p q t u f g n m parents templates trees one other children =
      let path : n.path ≡ m.path =
      one.path ∙ (λ i. member_path (parents i).path (trees i).name.text) ∙ sym other.path in
      let template : n.template ≡ m.template =
      same_some n.template m.template _ _ one.template other.template
      (ap (λ f. template_number spec f.template.text) trees) in
      let ports : n.ports ≡ m.ports =
      same_map n.ports m.ports (sym one.ports
      ∙ (λ i. map (λ a. neighbor (parents i) (templates i) a.text) (trees i).args) ∙ other.ports) in
      λ i. record { path = path i; template = template i; ports = ports i; children = children i }

  -- the instances below two that are the same are the same
  mutual
    agree_below : (at end bt fin : ℕ) (n m : InstanceNode) → slice_get ns at ≡ Some n → slice_get ms bt ≡ Some m →
        n ≡ m → at ≡ bt → IsSubtree spec ns at end → IsSubtree spec ms bt fin → AgreeOn ns ms at end
    agree_below at end bt fin n m here there same place (subtree {node = p} {t = t} is of all)
        (subtree {node = q} {t = u} is' of' all') =
        let parents : p ≡ q = same_some p n _ _ is here refl ∙ same ∙ same_some m q _ _ there is' refl in
        let templates : t ≡ u =
        same_some t u _ _ of of' (ap (slice_get spec.templates) (ap (λ n. n.template) parents)) in
        let below = agree_forest p q t u t.instances u.instances p.children q.children (at + 1) end (bt + 1) fin
        parents templates (ap (λ t. t.instances) templates) (ap (λ n. n + 1) place) all all' in
        λ k low high. ⊎_elim
        (λ reached. below k (omega arith) high)
        (λ not. subst (λ k. slice_get ns k ≡ slice_get ms k) (omega arith)
        (here ∙ ap Some same ∙ sym there ∙ ap (slice_get ms) (sym place)))
        (below_or_not at k)

    agree_forest : (p q : InstanceNode) (t u : TemplateTree) (one other : List InstanceTree) (cs ds : List ℕ)
        (at end bt fin : ℕ) → p ≡ q → t ≡ u → one ≡ other → at ≡ bt → IsForest spec ns p t one cs at end →
        IsForest spec ms q u other ds bt fin → AgreeOn ns ms at end
    agree_forest p q t u one other cs ds at end bt fin parents templates same place none_left none_left =
        λ k low high. absurd (omega arith)
    agree_forest p q t u one other cs ds at end bt fin parents templates same place none_left
        (one_more {first = f} {others = o} _ _ _ _) = absurd (nil_cons f o same)
    agree_forest p q t u one other cs ds at end bt fin parents templates same place
        (one_more {first = f} {others = o} _ _ _ _) none_left = absurd (nil_cons f o (sym same))
    agree_forest p q t u one other cs ds at end bt fin parents templates same place
        (one_more {child = n} {first = f} {others = o} {children = cs'} {middle = c} is declared below others)
        (one_more {child = m} {first = g} {others = r} {children = ds'} {middle = d} is' declared' below' others') =
        let head : f ≡ g = first_same f g o r same in
        let template = same_some n.template m.template _ _ declared.template declared'.template
        (ap (λ f. template_number spec f.template.text) head) in
        let under = same_below spec ns ms at c bt d n m is is' template place below below' in
        let nodes = child_same p q t u f g n m parents templates head declared declared' under.0 in
        let first = agree_below at c bt d n m is is' nodes place below below' in
        let after = agree_forest p q t u o r cs' ds' c end d fin parents templates (rest_same f g o r same) under.1
        others others' in
        λ k low high. ⊎_elim (λ reached. first k low reached) (λ passed. after k passed high) (below_or_not k c)

past_end : {X : Type 0} (xs : List X) (k : ℕ) → length xs ≤ k → slice_get xs k ≡ None
past_end [] k past = refl
past_end (x ∷ xs) zero past = absurd (omega arith)
past_end (x ∷ xs) (suc k) past = past_end xs k (omega arith)

same_items : {X : Type 0} (xs ys : List X) → ((k : ℕ) → slice_get xs k ≡ slice_get ys k) → xs ≡ ys
same_items [] [] same = refl
same_items [] (y ∷ ys) same = let e = same 0 in absurd (cc)
same_items (x ∷ xs) [] same = let e = same 0 in absurd (cc)
same_items (x ∷ xs) (y ∷ ys) same =
    let head : x ≡ y = ap (λ o. unwrap_or o x) (same 0) in
    let rest = same_items xs ys (λ k. same (suc k)) in
    λ i. head i ∷ rest i

-- the instances of a tree are determined
instances_agree : (spec : SpecTree) (ns ms : List InstanceNode) → AreInstances spec ns → AreInstances spec ms → ns ≡ ms
instances_agree spec ns ms one other = of_roots (slice_get ns 0) (slice_get ms 0) refl refl
  where
    of_roots : (x y : Option InstanceNode) → slice_get ns 0 ≡ x → slice_get ms 0 ≡ y → ns ≡ ms
    of_roots None y here there = let e = one.path in let h = here in absurd (cc)
    of_roots (Some n) None here there = let e = other.path in let h = there in absurd (cc)
    of_roots (Some n) (Some m) here there =
        let path : n.path ≡ m.path =
        same_some n.path m.path (Some n.path) (Some m.path) refl refl
        (ap (option_map (λ (n : InstanceNode). n.path)) (sym here) ∙ one.path ∙ sym other.path
        ∙ ap (option_map (λ (n : InstanceNode). n.path)) there) in
        let template : n.template ≡ m.template =
        same_some n.template m.template (Some n.template) (Some m.template) refl refl
        (ap (option_map (λ (n : InstanceNode). n.template)) (sym here) ∙ sym one.template ∙ other.template
        ∙ ap (option_map (λ (n : InstanceNode). n.template)) there) in
        let ports : n.ports ≡ m.ports =
        same_some n.ports m.ports (Some n.ports) (Some m.ports) refl refl
        (ap (option_map (λ (n : InstanceNode). n.ports)) (sym here) ∙ one.ports ∙ sym other.ports
        ∙ ap (option_map (λ (n : InstanceNode). n.ports)) there) in
        let under = same_below spec ns ms 0 (length ns) 0 (length ms) n m here there template refl one.all other.all in
        let children = under.0 in
        let ends = under.1 in
        let nodes : n ≡ m =
        λ i. record { path = path i; template = template i; ports = ports i; children = children i } in
        let agree = agree_below spec ns ms 0 (length ns) 0 (length ms) n m here there nodes refl one.all other.all in
        same_items ns ms (λ k. ⊎_elim (λ below. agree k (omega arith) below)
        (λ past. past_end ns k past ∙ sym (past_end ms k (omega arith))) (below_or_not k (length ns)))

-- a tree has one design at most
pub designs_agree : (spec : SpecTree) (d e : DesignTree) → d.spec ≡ spec → e.spec ≡ spec → IsDesign d → IsDesign e →
    d ≡ e
designs_agree spec d e of other one two =
    let specs : d.spec ≡ e.spec = of ∙ sym other in
    let nodes : d.instances ≡ e.instances =
    instances_agree d.spec d.instances e.instances one.instances
    (subst (λ s. AreInstances s e.instances) (sym specs) two.instances) in
    let vars : d.vars ≡ e.vars =
    one.vars ∙ (λ i. flat_map (instance_vars (specs i)) (enumerate_from 0 (nodes i))) ∙ sym two.vars in
    let processes : d.processes ≡ e.processes =
    one.processes ∙ (λ i. all_items (λ t. t.processes) (λ _. true) (λ (p : ProcessTree). p.name) (specs i) (nodes i))
    ∙ sym two.processes in
    let tasks : d.tasks ≡ e.tasks =
    one.tasks ∙ (λ i. all_items (λ t. t.tasks) (λ (k : TaskTree). is_controllable k.kind) (λ (k : TaskTree). k.name)
    (specs i) (nodes i)) ∙ sym two.tasks in
    let goals : d.goals ≡ e.goals =
    one.goals ∙ (λ i. with_goal (all_items (λ t. t.goals) (λ _. true) (λ (g : NamedTree). g.name) (specs i) (nodes i)))
    ∙ sym two.goals in
    let fairs : d.fairs ≡ e.fairs =
    one.fairs ∙ (λ i. all_items (λ t. t.fairs) (λ _. true) (λ (f : NamedTree). f.name) (specs i) (nodes i))
    ∙ sym two.fairs in
    λ i. record {
      spec = specs i;
      instances = nodes i;
      vars = vars i;
      processes = processes i;
      tasks = tasks i;
      goals = goals i;
      fairs = fairs i;
    }
