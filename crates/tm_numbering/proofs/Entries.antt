-- Entries that number the nodes of a store are those of a certificate, and hold where the functions are true.
use Rattle.std.proofs.Common.{◌≡◌, inl, inr, ℕ, zero, suc, ◌+◌, ◌-◌, ◌<◌, ◌≤◌, Bool, List, length, take, if◌then◌else◌, slice_get, Some, refl, sym, ap, ◌∙◌, subst, arith}
use Rattle.std.proofs.lemmas.List.{length-take-le}
use Rattle.std.proofs.lemmas.Option.{slice_get-get_or, slice_get_within}
use Rattle.tm_cert.specs.declared.cert.Entry.{Entry}
use Rattle.tm_cert.specs.Nodes.{ids_of}
use Rattle.tm_dd.specs.declared.node.NodeId.{NodeId}
use Rattle.tm_dd.specs.declared.node.TheConstants.{FALSE, TRUE}
use Rattle.tm_dd.specs.NodeId.{IsConstant, number_of}
use Rattle.tm_dd.specs.Reduced.{IsReduced, RanksRise}
use Rattle.tm_dd.specs.Table.{Table, depth_of, level_of, means, node_of, rank_of}
use Rattle.tm_dd.proofs.CallerLaws.{means-FALSE, means-TRUE, number_rises, same_number}
use Rattle.tm_verdict.specs.Fitting.{AreNodes}
use Rattle.tm_verdict.specs.Sets.{id_holds}
use Rattle.tm_verdict.proofs.Values.{always_holds, entry_holds, never_holds}
use Rattle.tm_numbering.specs.Numbers.{AreNumbered, HasNumber, IsNodeOf, IsNumber, IsOver}
use Rattle.tm_numbering.proofs.Growth.{number_at, number_below, number_tells}
use Rattle.tm_numbering.proofs.Items.{get_some, take_get}
use Rattle.tm_numbering.proofs.Over.{level_within}

module _ (s : Table) (reduced : IsReduced s) (bits : ℕ) (rise : RanksRise bits s) (kept : List NodeId)
    (nodes : List Entry) (numbered : AreNumbered s bits kept nodes) where
  -- two entries that are equal are of one function, so of one id
  one_place : (j k : ℕ) (id : NodeId) (e : Entry) → IsNodeOf s bits kept k id e → slice_get kept k ≡ Some id →
      slice_get nodes j ≡ Some e → j ≡ k
  one_place j k id e node here at =
      let below = slice_get_within nodes j e at in
      let there = get_some kept j (omega (arith, below, numbered.count)) in
      let other = there.0 in
      let own = numbered.each j other e there.1 at in
      let node_one = reduced.nodes other own.over.known own.inner in
      let node_two = reduced.nodes id node.over.known node.inner in
      let level : (node_of s other).level ≡ (node_of s id).level =
      node_one.level ∙ sym own.level ∙ node.level ∙ sym node_two.level in
      let lo = number_tells kept j k (node_of s other).lo (node_of s id).lo e.lo own.lo node.lo in
      let hi = number_tells kept j k (node_of s other).hi (node_of s id).hi e.hi own.hi node.hi in
      let same = reduced.canonical other id own.over.known node.over.known
      (λ v. node_one.meaning v
      ∙ (λ i. if v (level i) then means s (hi i) v else means s (lo i) v)
      ∙ sym (node_two.meaning v)) in
      numbered.once j k id (subst (λ (x : NodeId). slice_get kept j ≡ Some x) same there.1) here

  -- the level of an entry's id is one of the first
  level_low : (id : NodeId) → IsOver s bits id → ¬ IsConstant id → level_of s id < bits
  level_low id over inner =
      omega (arith, (reduced.nodes id over.known inner).level, level_within s reduced bits id over inner)

  -- a child that has an entry has a greater level
  child_deeper : (k : ℕ) (e : Entry) (id child : NodeId) (n : ℕ) → e.level ≡ level_of s id → e.level < bits →
      depth_of s id < depth_of s child → IsNumber kept k child n → (c : Entry) → 2 ≤ n →
      slice_get (take k nodes) (n - 2) ≡ Some c → e.level < c.level
  child_deeper k e id child n level low below number c inner at =
      let place : n ≡ n - 2 + 2 = omega (arith, inner) in
      let own = numbered.each (n - 2) child c (number_at kept k child n (n - 2) number place)
      (take_get k nodes (n - 2) c at) in
      let above = number_rises s bits rise (level_of s id) (level_of s child) (omega (arith, level, low))
      (level_low child own.over own.inner) below in
      omega (arith, level, above, own.level)

  -- the entries are what a certificate may have
  pub nodes_valid : AreNodes bits nodes
  nodes_valid k e is =
      let below = slice_get_within nodes k e is in
      let long = length-take-le k nodes (omega arith) in
      let there = get_some kept k (omega (arith, below, numbered.count)) in
      let id = there.0 in
      let node = numbered.each k id e there.1 is in
      let own = reduced.nodes id node.over.known node.inner in
      let low : e.level < bits = omega (arith, node.level, level_low id node.over node.inner) in
      let depth = ap (rank_of s) own.level in
      record {
        level_below = low;
        lo_before = omega (arith, number_below kept k (node_of s id).lo e.lo node.lo, long);
        hi_before = omega (arith, number_below kept k (node_of s id).hi e.hi node.hi, long);
        children_differ = λ same. own.differ
            (number_tells kept k k (node_of s id).lo (node_of s id).hi e.hi
            (subst (λ (n : ℕ). IsNumber kept k (node_of s id).lo n) same node.lo) node.hi);
        lo_deeper = λ child inner at.
            child_deeper k e id (node_of s id).lo e.lo node.level low (omega (arith, depth, own.lo_rises)) node.lo
            child inner at;
        hi_deeper = λ child inner at.
            child_deeper k e id (node_of s id).hi e.hi node.level low (omega (arith, depth, own.hi_rises)) node.hi
            child inner at;
        is_new = λ p.
            let same = one_place p.0 k id e node there.1
            (take_get k nodes p.0 e (slice_get-get_or (take k nodes) p.0 e p.1 ∙ ap Some p.2)) in
            omega (arith, same, p.1, long);
      }

  constant_worth : (v : ℕ → Bool) (x : NodeId) (m : ℕ) → number_of x ≡ m → m < 2 → id_holds nodes m v ≡ means s x v
  constant_worth v x zero e low =
      never_holds nodes v ∙ sym (means-FALSE s v) ∙ ap (λ (y : NodeId). means s y v) (sym (same_number x FALSE e))
  constant_worth v x (suc zero) e low =
      always_holds nodes v ∙ sym (means-TRUE s v) ∙ ap (λ (y : NodeId). means s y v) (sym (same_number x TRUE e))
  constant_worth v x (suc (suc m)) e low = absurd (omega (arith, low))

  worth_among : (v : ℕ → Bool) (most k : ℕ) (x : NodeId) (n : ℕ) → k ≤ most → IsNumber kept k x n →
      id_holds nodes n v ≡ means s x v
  worth_among v most k x n l (inl p) =
      ap (λ (m : ℕ). id_holds nodes m v) p.1 ∙ constant_worth v x (number_of x) refl p.0
  worth_among v zero k x n l (inr p) = absurd (omega (arith, l, p.1))
  worth_among v (suc most) k x n l (inr p) =
      let below = slice_get_within kept p.0 x p.2 in
      let there = get_some nodes p.0 (omega (arith, below, numbered.count)) in
      let e = there.0 in
      let node = numbered.each p.0 x e p.2 there.1 in
      let own = reduced.nodes x node.over.known node.inner in
      let lo = worth_among v most p.0 (node_of s x).lo e.lo (omega (arith, l, p.1)) node.lo in
      let hi = worth_among v most p.0 (node_of s x).hi e.hi (omega (arith, l, p.1)) node.hi in
      let level : e.level ≡ (node_of s x).level = node.level ∙ sym own.level in
      ap (λ (m : ℕ). id_holds nodes m v) p.3
      ∙ entry_holds bits p.0 nodes e v nodes_valid there.1
      ∙ (λ i. if v (level i) then hi i else lo i)
      ∙ sym (own.meaning v)

  -- a number holds where the function of its id is true
  pub worth : (v : ℕ → Bool) (x : NodeId) (n : ℕ) → HasNumber kept x n → id_holds nodes n v ≡ means s x v
  worth v x n number = worth_among v (length kept) (length kept) x n (omega arith) number

  -- a number is an id of the entries
  pub number_within : (x : NodeId) (n : ℕ) → HasNumber kept x n → n < ids_of nodes
  number_within x n number = omega (arith, number_below kept (length kept) x n number, numbered.count)
