-- Functions that read the first levels alone, and those that their nodes stand on.
use Rattle.std.proofs.Common.{◌≡◌, ◌≢◌, ◌⊎◌, inl, inr, ℕ, ◌+◌, ◌<◌, ◌≤◌, Bool, true, false, eqb, if◌then◌else◌, refl, sym, ap, ◌∙◌, subst, arith}
use Rattle.std.proofs.lemmas.Bool.{cases_eq, cases_lt, eq-eqb, ne_eqb}
use Rattle.tm_dd.specs.declared.node.Node.{Node}
use Rattle.tm_dd.specs.declared.node.NodeId.{NodeId}
use Rattle.tm_dd.specs.NodeId.{IsConstant}
use Rattle.tm_dd.specs.Reduced.{IsNode, IsReduced}
use Rattle.tm_dd.specs.Table.{Table, Knows, depth_of, means, node_of, rank_of}
use Rattle.tm_ddops.specs.Support.{with_value}
use Rattle.tm_numbering.specs.Numbers.{IsOver}

-- ---- a level's value
value_here : (v : ℕ → Bool) (level : ℕ) (b : Bool) → with_value v level b level ≡ b
value_here v level b = ap (λ t. if t then b else v level) (eq-eqb level level refl)

value_elsewhere : (v : ℕ → Bool) (level : ℕ) (b : Bool) (k : ℕ) → k ≢ level → with_value v level b k ≡ v k
value_elsewhere v level b k apart = ap (λ t. if t then b else v k) (ne_eqb k level apart)

-- values that agree below some level do so where one level has the same value in both
agree_with : (bits level : ℕ) (b : Bool) (v w : ℕ → Bool) → ((k : ℕ) → k < bits → v k ≡ w k) → (k : ℕ) → k < bits →
    with_value v level b k ≡ with_value w level b k
agree_with bits level b v w agree k below = by (cases_eq k level)
  where
    by : (k ≡ level) ⊎ (k ≢ level) → with_value v level b k ≡ with_value w level b k
    by (inl same) =
        ap (λ j. with_value v level b j) same ∙ value_here v level b ∙ sym (value_here w level b)
        ∙ ap (λ j. with_value w level b j) (sym same)
    by (inr apart) = value_elsewhere v level b k apart ∙ agree k below ∙ sym (value_elsewhere w level b k apart)

-- every known id reads the store's levels alone
pub over_all : (s : Table) (id : NodeId) → IsReduced s → Knows s id → IsOver s s.levels id
over_all s id reduced known = record {
  known = known;
  reads = λ v w agree. reduced.independent id known v w (λ k from below. agree k below);
}

module _ (s : Table) (reduced : IsReduced s) (bits : ℕ) (id : NodeId) (over : IsOver s bits id)
    (inner : ¬ IsConstant id) where
  node : IsNode s id (node_of s id)
  node = reduced.nodes id over.known inner

  abbrev level : ℕ
  level = (node_of s id).level

  -- a deeper function does not read the level
  deeper_reads : (f : NodeId) → Knows s f → rank_of s level < depth_of s f → (v : ℕ → Bool) (b : Bool) →
      means s f (with_value v level b) ≡ means s f v
  deeper_reads f known below v b =
      reduced.independent f known (with_value v level b) v
      (λ k from _. value_elsewhere v level b k (λ same. omega (arith, ap (rank_of s) same, from, below)))

  -- each child is the function where the level has a value
  hi_means : (v : ℕ → Bool) → means s id (with_value v level true) ≡ means s (node_of s id).hi v
  hi_means v =
      node.meaning (with_value v level true)
      ∙ ap (λ (b : Bool). if b then means s (node_of s id).hi (with_value v level true) else means s (node_of s id).lo
      (with_value v level true))
      (value_here v level true)
      ∙ deeper_reads (node_of s id).hi node.hi_known node.hi_rises v true

  lo_means : (v : ℕ → Bool) → means s id (with_value v level false) ≡ means s (node_of s id).lo v
  lo_means v =
      node.meaning (with_value v level false)
      ∙ ap (λ (b : Bool). if b then means s (node_of s id).hi (with_value v level false) else means s (node_of s id).lo
      (with_value v level false))
      (value_here v level false)
      ∙ deeper_reads (node_of s id).lo node.lo_known node.lo_rises v false

  -- the children read the first levels alone, too
  pub hi_over : IsOver s bits (node_of s id).hi
  hi_over = record {
    known = node.hi_known;
    reads = λ v w agree.
        sym (hi_means v)
        ∙ over.reads (with_value v level true) (with_value w level true) (agree_with bits level true v w agree)
        ∙ hi_means w;
  }

  pub lo_over : IsOver s bits (node_of s id).lo
  lo_over = record {
    known = node.lo_known;
    reads = λ v w agree.
        sym (lo_means v)
        ∙ over.reads (with_value v level false) (with_value w level false) (agree_with bits level false v w agree)
        ∙ lo_means w;
  }

  -- so do those of a node that is read
  pub lo_over_at : (n : Node) → n ≡ node_of s id → IsOver s bits n.lo
  lo_over_at n is = subst (λ (m : Node). IsOver s bits m.lo) (sym is) lo_over

  pub hi_over_at : (n : Node) → n ≡ node_of s id → IsOver s bits n.hi
  hi_over_at n is = subst (λ (m : Node). IsOver s bits m.hi) (sym is) hi_over

  -- the node has one of these levels, since else its children would be one
  pub level_within : (node_of s id).level < bits
  level_within = by (cases_lt level bits)
    where
      same : bits ≤ level → (v : ℕ → Bool) → means s (node_of s id).lo v ≡ means s (node_of s id).hi v
      same past v =
          sym (lo_means v)
          ∙ over.reads (with_value v level false) (with_value v level true)
          (λ k below.
          value_elsewhere v level false k (λ e. omega (arith, e, below, past))
          ∙ sym (value_elsewhere v level true k (λ e. omega (arith, e, below, past))))
          ∙ hi_means v

      by : (level < bits) ⊎ (bits ≤ level) → level < bits
      by (inl within) = within
      by (inr past) =
          absurd (node.differ
          (reduced.canonical (node_of s id).lo (node_of s id).hi node.lo_known node.hi_known (same past)))
