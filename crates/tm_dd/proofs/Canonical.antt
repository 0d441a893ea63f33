-- In a unique table ids that mean the same are equal (Bryant 1986).
use Rattle.std.proofs.Common.{◌≡◌, ℕ, zero, suc, ◌+◌, ◌<◌, ◌≤◌, inl, inr, Bool, true, false, not, eqb, if◌then◌else◌, refl, sym, ap, ◌∙◌, arith}
use Rattle.std.proofs.lemmas.Bool.{eq-eqb, ne_eqb, cases_order}
use Rattle.tm_dd.specs.declared.node.Node.{Node}
use Rattle.tm_dd.specs.declared.node.NodeId.{NodeId}
use Rattle.tm_dd.specs.NodeId.{position_of, is_marked}
use Rattle.tm_dd.specs.Table.{Table, kept, Knows, depth_of, entry_at, level_of, marked_value, means, rank_of}
use Rattle.tm_dd.specs.Unique.{IsUniqueTable}
use Rattle.tm_dd.proofs.NodeIdLemmas.{same_id, not-not}
use Rattle.tm_dd.proofs.Meaning.{means-entry, means-agree, means-all_false, depth_of-entry, level_of-entry, level_of-constant, knows_before, cases_position}
use Rattle.tm_dd.proofs.Ranks.{depth_of-constant, rank_of-below, rank_of-once, rank_of-within, ranks_apart}

-- v, with b as the level's value
with_level : (ℕ → Bool) → ℕ → Bool → ℕ → Bool
with_level v level b k = if eqb k level then b else v k

with_level-same : (v : ℕ → Bool) (level : ℕ) (b : Bool) → with_level v level b level ≡ b
unfolding with_level
with_level-same v level b = ap (λ c. if c then b else v level) (eq-eqb level level refl)

with_level-other : (v : ℕ → Bool) (level k : ℕ) (b : Bool) → ¬ (k ≡ level) → with_level v level b k ≡ v k
unfolding with_level
with_level-other v level k b other = ap (λ c. if c then b else v k) (ne_eqb k level other)

-- the child that a value of the node's level picks
child_of : Node → Bool → NodeId
child_of n true = n.hi
child_of n false = n.lo

marked_value-cancel : (m a b : Bool) → marked_value m a ≡ marked_value m b → a ≡ b
marked_value-cancel true a b e = sym (not-not a) ∙ ap not e ∙ not-not b
marked_value-cancel false a b e = e

module _ (s : Table) (unique : IsUniqueTable s) where
  -- what a function says of the levels above a child, under its mark, is what the child says
  child_meaning : (id : NodeId) → Knows s id → 0 < position_of id → (b : Bool) (v : ℕ → Bool)
      → means s id (with_level v (entry_at s (position_of id)).level b)
      ≡ marked_value (is_marked id) (means s (child_of (entry_at s (position_of id)) b) v)
  unfolding child_of
  child_meaning id known some b v =
      let within : position_of id ≤ kept s = omega (arith, known) in
      let e = unique.nodes (position_of id) some within in
      let n = entry_at s (position_of id) in
      let w = with_level v n.level b in
      means-entry s id w unique known some
      ∙ ap (marked_value (is_marked id))
      (ap (λ c. if c then means s n.hi w else means s n.lo w) (with_level-same v n.level b)
      ∙ elim b as (λ c. (if c then means s n.hi (with_level v n.level c) else means s n.lo (with_level v n.level c))
      ≡ means s (child_of n c) v) [
        | true ↦ means-agree s unique _ v (position_of n.hi + 1) n.hi (omega arith)
            (knows_before s _ _ e.hi_before within)
            (λ k above _. with_level-other v n.level k true
            (ranks_apart s n.level k (omega (arith, e.hi_rises, above))))
        | false ↦ means-agree s unique _ v (position_of n.lo + 1) n.lo (omega arith)
            (knows_before s _ _ e.lo_before within)
            (λ k above _. with_level-other v n.level k false
            (ranks_apart s n.level k (omega (arith, e.lo_rises, above))))
      ])

  -- a function of a deeper level does not depend on a level
  level_ignored : (id : NodeId) → Knows s id → (level : ℕ) → rank_of s level < depth_of s id → (b : Bool)
      (v : ℕ → Bool) → means s id (with_level v level b) ≡ means s id v
  level_ignored id known level above b v =
      means-agree s unique _ v (position_of id + 1) id (omega arith) known
      (λ k deep _. with_level-other v level k b (ranks_apart s level k (omega (arith, above, deep))))

  -- an id above all that it is compared with is that of a node
  inner_above : (f : NodeId) → depth_of s f < s.levels → 0 < position_of f
  inner_above f above =
      elim (cases_position (position_of f))
      [ inl e ↦ absurd (omega (arith, depth_of-constant s unique.ranks f e, above)) | inr some ↦ some ]

  pub level_of-within : (f : NodeId) → Knows s f → level_of s f ≤ s.levels
  level_of-within f known =
      elim (cases_position (position_of f)) [
        | inl e ↦ omega (arith, level_of-constant s f e)
        | inr some ↦
            let within : position_of f ≤ kept s = omega (arith, known) in
            omega (arith, (unique.nodes (position_of f) some within).below, level_of-entry s f)
      ]

  -- a node's level is one of the levels
  inner_level : (f : NodeId) → Knows s f → 0 < position_of f → level_of s f < s.levels
  inner_level f known some =
      let within : position_of f ≤ kept s = omega (arith, known) in
      omega (arith, (unique.nodes (position_of f) some within).below, level_of-entry s f)

  -- the claim, for ids of positions below n
  Apart : ℕ → Type 0
  Apart n = (f g : NodeId) → position_of f < n → position_of g < n → Knows s f → Knows s g →
      ((v : ℕ → Bool) → means s f v ≡ means s g v) → f ≡ g

  -- no node means what a function of a deeper level means
  not_deeper : (n : ℕ) → Apart n → (f g : NodeId) → position_of f ≤ n → Knows s f → Knows s g →
      depth_of s f < depth_of s g
      → ((v : ℕ → Bool) → means s f v ≡ means s g v) → f ≡ g
  unfolding Apart child_of
  not_deeper n ih f g small kf kg deeper same =
      let top = rank_of-within s unique.ranks (level_of s g) in
      let some = inner_above f (omega (arith, deeper, top)) in
      let within : position_of f ≤ kept s = omega (arith, kf) in
      let e = unique.nodes (position_of f) some within in
      let m = entry_at s (position_of f) in
      let depth = depth_of-entry s f in
      let alike : (b : Bool) (v : ℕ → Bool) → marked_value (is_marked f) (means s (child_of m b) v) ≡ means s g v =
      λ b v. sym (child_meaning f kf some b v) ∙ same (with_level v m.level b)
      ∙ level_ignored g kg m.level (omega (arith, deeper, depth)) b v in
      absurd (e.differ (ih m.lo m.hi (omega (arith, e.lo_before, small)) (omega (arith, e.hi_before, small))
      (knows_before s _ _ e.lo_before within) (knows_before s _ _ e.hi_before within)
      (λ v. marked_value-cancel (is_marked f) _ _ (alike false v ∙ sym (alike true v)))))

  same_marks : (f g : NodeId) → Knows s f → Knows s g → ((v : ℕ → Bool) → means s f v ≡ means s g v) →
      is_marked f ≡ is_marked g
  same_marks f g kf kg same =
      sym (means-all_false s unique (position_of f + 1) f (omega arith) kf)
      ∙ same (λ _. false)
      ∙ means-all_false s unique (position_of g + 1) g (omega arith) kg

  -- nodes of one level that mean the same have the same children
  same_level_nodes : (n : ℕ) → Apart n → (f g : NodeId) → position_of f ≤ n → position_of g ≤ n → Knows s f → Knows s g
      → 0 < position_of f → 0 < position_of g → level_of s f ≡ level_of s g →
      ((v : ℕ → Bool) → means s f v ≡ means s g v) → f ≡ g
  unfolding Apart child_of
  same_level_nodes n ih f g sf sg kf kg pf pg level same =
      let wf : position_of f ≤ kept s = omega (arith, kf) in
      let wg : position_of g ≤ kept s = omega (arith, kg) in
      let ef = unique.nodes (position_of f) pf wf in
      let eg = unique.nodes (position_of g) pg wg in
      let a = entry_at s (position_of f) in
      let b = entry_at s (position_of g) in
      let l : a.level ≡ b.level = sym (level_of-entry s f) ∙ level ∙ level_of-entry s g in
      let marks = same_marks f g kf kg same in
      let alike : (c : Bool) (v : ℕ → Bool) → means s (child_of a c) v ≡ means s (child_of b c) v =
      λ c v. marked_value-cancel (is_marked f) _ _
      (sym (child_meaning f kf pf c v)
      ∙ same (with_level v a.level c)
      ∙ ap (λ k. means s g (with_level v k c)) l
      ∙ child_meaning g kg pg c v
      ∙ ap (λ k. marked_value k (means s (child_of b c) v)) (sym marks)) in
      let lo = ih a.lo b.lo (omega (arith, ef.lo_before, sf)) (omega (arith, eg.lo_before, sg))
      (knows_before s _ _ ef.lo_before wf) (knows_before s _ _ eg.lo_before wg) (alike false) in
      let hi = ih a.hi b.hi (omega (arith, ef.hi_before, sf)) (omega (arith, eg.hi_before, sg))
      (knows_before s _ _ ef.hi_before wf) (knows_before s _ _ eg.hi_before wg) (alike true) in
      let node : a ≡ b = λ i. record { level = l i; lo = lo i; hi = hi i } in
      same_id f g (unique.once (position_of f) (position_of g) wf wg node) marks

  apart : (n : ℕ) → Apart n
  unfolding Apart
  apart zero = λ f g hf hg kf kg same. absurd (omega (arith, hf))
  apart (suc n) = λ f g hf hg kf kg same.
      let ih = apart n in
      elim (cases_order (depth_of s f) (depth_of s g)) [
        | inl e ↦ elim (cases_position (position_of f)) [
          | inl cf ↦
              let deep = depth_of-constant s unique.ranks f cf in
              elim (cases_position (position_of g)) [
                | inl cg ↦ same_id f g (cf ∙ sym cg) (same_marks f g kf kg same)
                | inr pg ↦ absurd (omega (arith, depth_of-inner g kg pg, e, deep))
              ]
          | inr pf ↦ elim (cases_position (position_of g)) [
            | inl cg ↦
                let deep = depth_of-constant s unique.ranks g cg in
                absurd (omega (arith, depth_of-inner f kf pf, e, deep))
            | inr pg ↦ same_level_nodes n ih f g (omega (arith, hf)) (omega (arith, hg)) kf kg pf pg
                (rank_of-once s unique.ranks (level_of s f) (level_of s g) (inner_level f kf pf) (inner_level g kg pg)
                e)
                same
          ]
        ]
        | inr o ↦ elim o [
          | inl deeper ↦ not_deeper n ih f g (omega (arith, hf)) kf kg deeper same
          | inr deeper ↦ sym (not_deeper n ih g f (omega (arith, hg)) kg kf deeper (λ v. sym (same v)))
        ]
      ]
    where
      depth_of-inner : (h : NodeId) → Knows s h → 0 < position_of h → depth_of s h < s.levels
      depth_of-inner h kh ph = rank_of-below s unique.ranks (level_of s h) (inner_level h kh ph)

  -- ids that mean the same are equal
  pub ids_canonical : (f g : NodeId) → Knows s f → Knows s g → ((v : ℕ → Bool) → means s f v ≡ means s g v) → f ≡ g
  unfolding Apart
  ids_canonical f g kf kg same = apart (position_of f + position_of g + 1) f g (omega arith) (omega arith) kf kg same
