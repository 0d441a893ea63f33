-- Numbers tell ids apart, and stay while ids are added.
use Rattle.std.proofs.Common.{◌≡◌, ◌⊎◌, inl, inr, ℕ, zero, suc, ◌+◌, ◌<◌, ◌≤◌, List, [], ◌∷◌, ◌++◌, length, slice_get, Some, None, Option, refl, sym, ap, ◌∙◌, subst, arith}
use Rattle.std.proofs.lemmas.List.{length_push}
use Rattle.std.proofs.lemmas.Option.{none-some, same_Some, slice_get_within}
use Rattle.tm_cert.specs.declared.cert.Entry.{Entry}
use Rattle.tm_dd.specs.declared.node.Node.{Node}
use Rattle.tm_dd.specs.declared.node.NodeId.{NodeId}
use Rattle.tm_dd.specs.NodeId.{IsConstant, number_of}
use Rattle.tm_dd.specs.Reduced.{IsNode}
use Rattle.tm_dd.specs.Table.{Table, depth_of, node_of, rank_of}
use Rattle.tm_dd.proofs.CallerLaws.{same_number}
use Rattle.tm_numbering.specs.Inner.Found.{IsAbsent}
use Rattle.tm_numbering.specs.Numbers.{AreDeeper, AreNumbered, HasNumber, IsNodeOf, IsNumber, IsOver, Numbers, Stay}
use Rattle.tm_numbering.specs.Parts.{Goes}
use Rattle.tm_numbering.proofs.Items.{get_last, get_more, get_stays}

-- ---- a number

-- a number has one id
pub number_tells : (ids : List NodeId) (k l : ℕ) (x y : NodeId) (n : ℕ) → IsNumber ids k x n → IsNumber ids l y n →
    x ≡ y
number_tells ids k l x y n (inl p) (inl q) = same_number x y (sym p.1 ∙ q.1)
number_tells ids k l x y n (inl p) (inr q) = absurd (omega (arith, p.0, p.1, q.3))
number_tells ids k l x y n (inr p) (inl q) = absurd (omega (arith, q.0, q.1, p.3))
number_tells ids k l x y n (inr p) (inr q) =
    let same : p.0 ≡ q.0 = omega (arith, p.3, q.3) in
    same_Some x y (sym p.2 ∙ ap (λ (j : ℕ). slice_get ids j) same ∙ q.2)

-- a number is below that of the next entry
pub number_below : (ids : List NodeId) (k : ℕ) (x : NodeId) (n : ℕ) → IsNumber ids k x n → n < k + 2
number_below ids k x n (inl p) = omega (arith, p.0, p.1)
number_below ids k x n (inr p) = omega (arith, p.1, p.3)

-- where the number is that of the j-th entry, the id is the j-th
pub number_at : (ids : List NodeId) (k : ℕ) (x : NodeId) (n j : ℕ) → IsNumber ids k x n → n ≡ j + 2 →
    slice_get ids j ≡ Some x
number_at ids k x n j (inl p) e = absurd (omega (arith, p.0, p.1, e))
number_at ids k x n j (inr p) e =
    let same : p.0 ≡ j = omega (arith, p.3, e) in
    subst (λ (i : ℕ). slice_get ids i ≡ Some x) same p.2

-- a number among the first ids stays one
number_stays : (ids later : List NodeId) (k : ℕ) (x : NodeId) (n : ℕ) → Stay ids later → IsNumber ids k x n →
    IsNumber later k x n
number_stays ids later k x n stay (inl p) = inl p
number_stays ids later k x n stay (inr p) = inr (p.0, p.1, stay.stay p.0 x p.2, p.3)

-- the number of an id stays its number
pub number_later : (ids later : List NodeId) (x : NodeId) (n : ℕ) → Stay ids later → HasNumber ids x n →
    HasNumber later x n
number_later ids later x n stay (inl p) = inl p
number_later ids later x n stay (inr p) =
    let there = stay.stay p.0 x p.2 in
    inr (p.0, slice_get_within later p.0 x there, there, p.3)

-- ---- lists of ids that grow
pub stay_none : (ids : List NodeId) → Stay ids ids
stay_none ids = record { stay = λ k x is. is }

pub stay_then : (one two three : List NodeId) → Stay one two → Stay two three → Stay one three
stay_then one two three first second = record { stay = λ k x is. second.stay k x (first.stay k x is) }

stay_more : (ids : List NodeId) (id : NodeId) → Stay ids (ids ++ id ∷ [])
stay_more ids id = record { stay = λ k x is. get_stays ids id k x is }

-- no id has an entry at first
pub numbered_none : (s : Table) (bits : ℕ) (ids : List NodeId) (nodes : List Entry) → ids ≡ [] → nodes ≡ [] →
    AreNumbered s bits ids nodes
numbered_none s bits ids nodes no_ids no_nodes = record {
  count = ap length no_nodes ∙ sym (ap length no_ids);
  each = λ k id e at. absurd (none k id at);
  once = λ j k id at. absurd (none j id at);
}
  where
    none : (k : ℕ) (id : NodeId) → slice_get ids k ≡ Some id → ⊥
    none k id at = none-some id (ap (λ (xs : List NodeId). slice_get xs k) (sym no_ids) ∙ at)

-- what a caller keeps of a number
pub numbers_go : (s : Table) (bits : ℕ) (id : NodeId) (old new : List NodeId) (nodes : List Entry) (n : ℕ) →
    Numbers s bits id old new nodes n → Goes s bits old new nodes (HasNumber new id n)
numbers_go s bits id old new nodes n numbers =
    record { numbered = numbers.numbered; stay = numbers.stay; part = numbers.number }

-- ---- one more entry
module _ (s : Table) (bits : ℕ) (ids : List NodeId) (nodes : List Entry) (numbered : AreNumbered s bits ids nodes)
    (id : NodeId) (e : Entry) (node : IsNodeOf s bits ids (length ids) id e) (absent : IsAbsent ids id) where
  abbrev more : List NodeId
  more = ids ++ id ∷ []

  node_stays : (k : ℕ) (x : NodeId) (f : Entry) → IsNodeOf s bits ids k x f → IsNodeOf s bits more k x f
  node_stays k x f is = record {
    over = is.over;
    inner = is.inner;
    level = is.level;
    lo = number_stays ids more k (node_of s x).lo f.lo (stay_more ids id) is.lo;
    hi = number_stays ids more k (node_of s x).hi f.hi (stay_more ids id) is.hi;
  }

  node_at : (k : ℕ) (x : NodeId) (f : Entry) → (slice_get ids k ≡ Some x) ⊎ ((k ≡ length ids) × (id ≡ x)) →
      (slice_get nodes k ≡ Some f) ⊎ ((k ≡ length nodes) × (e ≡ f)) → IsNodeOf s bits more k x f
  node_at k x f (inl p) (inl q) = node_stays k x f (numbered.each k x f p q)
  node_at k x f (inl p) (inr q) =
      absurd (omega (arith, slice_get_within ids k x p, numbered.count, q.0))
  node_at k x f (inr p) (inl q) =
      absurd (omega (arith, slice_get_within nodes k f q, numbered.count, p.0))
  node_at k x f (inr p) (inr q) =
      node_stays k x f
      (subst (λ (j : ℕ). IsNodeOf s bits ids j x f) (sym p.0)
      (subst (λ (y : NodeId). IsNodeOf s bits ids (length ids) y f) p.1
      (subst (λ (g : Entry). IsNodeOf s bits ids (length ids) id g) q.1 node)))

  once : (j k : ℕ) (x : NodeId) → (slice_get ids j ≡ Some x) ⊎ ((j ≡ length ids) × (id ≡ x)) →
      (slice_get ids k ≡ Some x) ⊎ ((k ≡ length ids) × (id ≡ x)) → j ≡ k
  once j k x (inl p) (inl q) = numbered.once j k x p q
  once j k x (inl p) (inr q) = absurd (absent j (subst (λ (y : NodeId). slice_get ids j ≡ Some y) (sym q.1) p))
  once j k x (inr p) (inl q) = absurd (absent k (subst (λ (y : NodeId). slice_get ids k ≡ Some y) (sym p.1) q))
  once j k x (inr p) (inr q) = p.0 ∙ sym q.0

  numbered_more : AreNumbered s bits more (nodes ++ e ∷ [])
  numbered_more = record {
    count = omega (arith, length_push nodes e, numbered.count, length_push ids id);
    each = λ k x f is at. node_at k x f (get_more ids id k x is) (get_more nodes e k f at);
    once = λ j k x is at. once j k x (get_more ids id j x is) (get_more ids id k x at);
  }

-- ---- an id that had no entry, from its children
module _ (s : Table) (bits : ℕ) (id : NodeId) (over : IsOver s bits id) (inner : ¬ IsConstant id) (n : Node)
    (node : IsNode s id n) (is : n ≡ node_of s id) (old one other : List NodeId) (absent : IsAbsent old id)
    (first : AreDeeper s (depth_of s n.lo) old one) (second : AreDeeper s (depth_of s n.hi) one other) where
  lo_below : depth_of s id < depth_of s n.lo
  lo_below = omega (arith, ap (rank_of s) node.level, node.lo_rises)

  hi_below : depth_of s id < depth_of s n.hi
  hi_below = omega (arith, ap (rank_of s) node.level, node.hi_rises)

  -- it has none while they get theirs
  pub still_absent : IsAbsent other id
  still_absent k at = in_other k (second k id at)
    where
      in_one : (k : ℕ) → (slice_get old k ≡ Some id) ⊎ (depth_of s n.lo ≤ depth_of s id) → ⊥
      in_one k (inl p) = absent k p
      in_one k (inr l) = omega (arith, l, lo_below)

      in_other : (k : ℕ) → (slice_get one k ≡ Some id) ⊎ (depth_of s n.hi ≤ depth_of s id) → ⊥
      in_other k (inl p) = in_one k (first k id p)
      in_other k (inr l) = omega (arith, l, hi_below)

  deeper_then : AreDeeper s (depth_of s id) old (other ++ id ∷ [])
  deeper_then k x at = last (get_more other id k x at)
    where
      in_one : (slice_get old k ≡ Some x) ⊎ (depth_of s n.lo ≤ depth_of s x) →
          (slice_get old k ≡ Some x) ⊎ (depth_of s id ≤ depth_of s x)
      in_one (inl p) = inl p
      in_one (inr l) = inr (omega (arith, l, lo_below))

      in_other : (slice_get one k ≡ Some x) ⊎ (depth_of s n.hi ≤ depth_of s x) →
          (slice_get old k ≡ Some x) ⊎ (depth_of s id ≤ depth_of s x)
      in_other (inl p) = in_one (first k x p)
      in_other (inr l) = inr (omega (arith, l, hi_below))

      last : (slice_get other k ≡ Some x) ⊎ ((k ≡ length other) × (id ≡ x)) →
          (slice_get old k ≡ Some x) ⊎ (depth_of s id ≤ depth_of s x)
      last (inl p) = in_other (second k x p)
      last (inr p) = inr (subst (λ (y : NodeId). depth_of s id ≤ depth_of s y) p.1 (omega arith))

  -- then it gets its number
  pub numbers_node : (new : List NodeId) (nodes later : List Entry) (e : Entry) (number : ℕ) → Stay old one →
      Stay one other → AreNumbered s bits other nodes → e.level ≡ n.level → HasNumber one n.lo e.lo →
      HasNumber other n.hi e.hi → new ≡ other ++ id ∷ [] → later ≡ nodes ++ e ∷ [] → number ≡ length other + 2 →
      Numbers s bits id old new later number
  numbers_node new nodes later e number stay stay_on numbered level lo hi ids items at =
      subst (λ (xs : List NodeId). Numbers s bits id old xs later number) (sym ids)
      (subst (λ (es : List Entry). Numbers s bits id old (other ++ id ∷ []) es number) (sym items) (record {
        numbered = numbered_more s bits other nodes numbered id e entry still_absent;
        stay = stay_then old other (other ++ id ∷ []) (stay_then old one other stay stay_on) (stay_more other id);
        deeper = deeper_then;
        number = inr (length other, omega (arith, length_push other id), get_last other id, at);
      }))
    where
      entry : IsNodeOf s bits other (length other) id e
      entry = record {
        over = over;
        inner = inner;
        level = level ∙ node.level;
        lo = subst (λ (m : Node). HasNumber other m.lo e.lo) is (number_later one other n.lo e.lo stay_on lo);
        hi = subst (λ (m : Node). HasNumber other m.hi e.hi) is hi;
      }
