-- What is left to be done is a chain of nodes, none of which comes twice.
use Rattle.std.proofs.Common.{◌≡◌, ℕ, zero, suc, ◌<◌, ◌≤◌, Bool, true, false, Option, None, Some, List, [], ◌∷◌, ◌++◌, length, map, slice_get, refl, sym, ap, ◌∙◌, subst, arith}
use Rattle.std.specs.Prelude.{◌||◌, nat_eq}
use Rattle.std.specs.List.{AllByRecursion, IsDistinct, list_any}
use Rattle.std.specs.Option.{option_map_or}
use Rattle.std.proofs.lemmas.Bool.Decides.{nat_tests}
use Rattle.std.proofs.lemmas.Map.Steps.{length-le_from_distinct_below}
use Rattle.std.proofs.lemmas.Option.{slice_get_within}
use Rattle.tm_base.specs.declared.place.Place.{Place}
use Rattle.tm_syntax.specs.Design.Work.{WorkItem, perform}
use Rattle.tm_scope.specs.Cells.{scope_of}
use Rattle.tm_locations.specs.Locations.{IsRest, IsTrail, nothing_left, numbered_node, work_before, work_stmts}
use Rattle.tm_locations.specs.declared.table.RestNode.{RestNode}
use Rattle.tm_locations.specs.declared.table.TrailNode.{TrailNode}

-- how many nodes lead on from a number, up to so many
abbrev pub steps : List RestNode → ℕ → ℕ → ℕ
steps rests zero k = 0
steps rests (suc most) k = option_map_or (λ (n : RestNode). suc (steps rests most n.then)) (numbered_node rests k) 0

module _ (trails : List TrailNode) (rests : List RestNode) where
  abbrev height : {k : ℕ} {items : List WorkItem} → IsRest trails rests k items → ℕ
  height nothing_left = 0
  height (work_before there trail after) = suc (height after)

  -- a number has one height
  one_height : {j k : ℕ} {is js : List WorkItem} (r : IsRest trails rests j is) (s : IsRest trails rests k js) → j ≡ k →
      height r ≡ height s
  one_height nothing_left nothing_left same = refl
  one_height nothing_left (work_before there trail after) same = absurd (omega (arith, same))
  one_height (work_before there trail after) nothing_left same = absurd (omega (arith, same))
  one_height (work_before {k = j} {n = n} there trail after) (work_before {k = k} {n = m} there' trail' after') same =
      let number : j ≡ k = omega (arith, same) in
      let node : Some n ≡ Some m = sym there ∙ ap (slice_get rests) number ∙ there' in
      ap suc (one_height after after' (ap (λ (o : Option RestNode). option_map_or (λ (x : RestNode). x.then) o 0) node))

  -- the nodes of a chain
  abbrev nodes : {k : ℕ} {items : List WorkItem} → IsRest trails rests k items → List ℕ
  nodes nothing_left = []
  nodes (work_before {k = k} there trail after) = k ∷ nodes after

  as_long : {k : ℕ} {items : List WorkItem} (r : IsRest trails rests k items) → length (nodes r) ≡ height r
  as_long nothing_left = refl
  as_long (work_before there trail after) = ap suc (as_long after)

  either : (a b : Bool) (P : Type 0) → (a ≡ true → P) → (b ≡ true → P) → (a || b) ≡ true → P
  either true b P one two is = one refl
  either false b P one two is = two is

  below : {k : ℕ} {items : List WorkItem} (r : IsRest trails rests k items) (q : ℕ) →
      list_any (nat_eq q) (nodes r) ≡ true → q < length rests
  below nothing_left q is = absurd (cc)
  below (work_before {k = k} {n = n} there trail after) q is =
      let within = slice_get_within rests k n there in
      either (nat_eq q k) (list_any (nat_eq q) (nodes after)) (q < length rests)
      (λ same. grind (arith, nat_tests)) (below after q) is

  -- the nodes further on are lower
  apart : {k : ℕ} {items : List WorkItem} (r : IsRest trails rests k items) (j : ℕ) {js : List WorkItem}
      (s : IsRest trails rests (suc j) js) → height r < height s →
      AllByRecursion (λ y. nat_eq j y ≡ false) (nodes r)
  apart nothing_left j s lower = tt
  apart (work_before {k = k} there trail after) j s lower =
      (differs (nat_eq j k) refl, apart after j s (omega (arith, lower)))
    where
      differs : (b : Bool) → nat_eq j k ≡ b → nat_eq j k ≡ false
      differs false is = is
      differs true is =
          let same : suc j ≡ suc k = grind (arith, nat_tests) in
          let one = one_height s (work_before there trail after) same in absurd (omega (arith, one, lower))

  distinct : {k : ℕ} {items : List WorkItem} (r : IsRest trails rests k items) → IsDistinct nat_eq (nodes r)
  unfolding IsDistinct
  distinct nothing_left = tt
  distinct (work_before {k = k} there trail after) =
      (apart after k (work_before there trail after) (omega arith), distinct after)

  short : {k : ℕ} {items : List WorkItem} (r : IsRest trails rests k items) → height r ≤ length rests
  short r =
      let most = length-le_from_distinct_below (nodes r) (length rests) (distinct r) (below r) in
      let same = as_long r in omega (arith, most, same)

  steps_are : {k : ℕ} {items : List WorkItem} (r : IsRest trails rests k items) (most : ℕ) → height r ≤ most →
      steps rests most k ≡ height r
  steps_are nothing_left zero less = refl
  steps_are nothing_left (suc most) less = refl
  steps_are (work_before there trail after) zero less = absurd (omega (arith, less))
  steps_are (work_before {k = k} {n = n} there trail after) (suc most) less =
      ap (λ (o : Option RestNode). option_map_or (λ (n : RestNode). suc (steps rests most n.then)) o 0) there
      ∙ ap suc (steps_are after most (omega (arith, less)))

  -- the work of a node, and what is left behind it
  pub record NextWork (left : ℕ) (node : RestNode) (items : List WorkItem) : Type 0 where
    pub trail : List Place
    pub is_trail : IsTrail trails node.trail trail
    pub others : List WorkItem
    pub leads : IsRest trails rests node.then others
    pub are : items ≡ map (perform (scope_of node.scope) trail) (work_stmts node.work) ++ others
    pub fewer : steps rests (length rests) node.then < steps rests (length rests) left

  pub next_work : (left : ℕ) (node : RestNode) (items : List WorkItem) → IsRest trails rests left items →
      numbered_node rests left ≡ Some node → NextWork left node items
  next_work left node items nothing_left is = absurd (cc)
  next_work left node items (work_before {k = k} {n = n} {trail = trail} {items = others} there reached after) is =
      let whole : IsRest trails rests (suc k) (map (perform (scope_of n.scope) trail) (work_stmts n.work) ++ others) =
      work_before there reached after in
      let one = short whole in
      let here = steps_are whole (length rests) one in
      let later = steps_are after (length rests) (omega (arith, one)) in
      let same : Some n ≡ Some node = sym there ∙ is in
      subst (λ (x : RestNode). NextWork (suc k) x
      (map (perform (scope_of n.scope) trail) (work_stmts n.work) ++ others))
      (ap (λ (o : Option RestNode). option_map_or (λ (x : RestNode). x) o n) same)
      (record {
        trail = trail;
        is_trail = reached;
        others = others;
        leads = after;
        are = refl;
        fewer = omega (arith, here, later);
      })

  -- nothing is left where there is no node
  pub no_work : (left : ℕ) (items : List WorkItem) → IsRest trails rests left items → numbered_node rests left ≡ None →
      items ≡ []
  no_work left items nothing_left is = refl
  no_work left items (work_before there reached after) is = absurd (let both = sym there ∙ is in cc)
