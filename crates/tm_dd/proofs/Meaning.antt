-- What the ids of a unique table mean.
use Rattle.std.proofs.Common.{◌≡◌, ℕ, zero, suc, ◌%◌, ◌<◌, ◌≤◌, ◌⊎◌, inl, inr, Bool, true, false, not, [], ◌∷◌, get_or, cond, if◌then◌else◌, eqb, refl, sym, ap, ◌∙◌, arith}
use Rattle.tm_dd.specs.declared.node.NodeId.{NodeId}
use Rattle.tm_dd.specs.declared.node.TheConstants.{FALSE, TRUE}
use Rattle.tm_dd.specs.NodeId.{number_of, position_of, is_marked, complement, IsConstant}
use Rattle.tm_dd.specs.Table.{Table, kept, Knows, constant_entry, depth_of, entries, entry_at, level_of, marked_value, rank_of, values_of, means}
use Rattle.tm_dd.specs.Unique.{IsUniqueTable}
use Rattle.tm_dd.proofs.NodeIdLemmas.{position_of-complement, is_marked-complement, not-not}
use Rattle.tm_dd.proofs.Values.{values_from-given, values_from-node}

-- the value of the kept function at a position
unfoldable pub value_at : Table → ℕ → (ℕ → Bool) → Bool
value_at s p v = get_or (values_of s v) p false

pub means-value_at : (s : Table) (id : NodeId) (v : ℕ → Bool) →
    means s id v ≡ marked_value (is_marked id) (value_at s (position_of id) v)
unfolding means value_at
means-value_at s id v = refl

-- the constant is false
pub value_at-constant : (s : Table) (v : ℕ → Bool) → value_at s 0 v ≡ false
unfolding value_at values_of
value_at-constant s v = values_from-given v s.nodes (false ∷ []) 0 (omega arith)

pub means-FALSE : (s : Table) (v : ℕ → Bool) → means s FALSE v ≡ false
means-FALSE s v = means-value_at s FALSE v ∙ value_at-constant s v

pub means-TRUE : (s : Table) (v : ℕ → Bool) → means s TRUE v ≡ true
means-TRUE s v = means-value_at s TRUE v ∙ ap not (value_at-constant s v)

marked_value-not : (m b : Bool) → marked_value (not m) b ≡ not (marked_value m b)
marked_value-not true b = sym (not-not b)
marked_value-not false b = refl

-- a complement means the opposite
pub means-complement : (s : Table) (id : NodeId) (v : ℕ → Bool) → means s (complement id) v ≡ not (means s id v)
means-complement s id v =
    means-value_at s (complement id) v
    ∙ (λ i. marked_value (is_marked-complement id i) (value_at s (position_of-complement id i) v))
    ∙ marked_value-not (is_marked id) (value_at s (position_of id) v)
    ∙ ap not (sym (means-value_at s id v))

-- and has the level
pub level_of-complement : (s : Table) (id : NodeId) → level_of s (complement id) ≡ level_of s id
unfolding level_of
level_of-complement s id = ap (λ p. (entry_at s p).level) (position_of-complement id)

-- the value of a node is that of the child that its level's value picks
value_at-entry : (s : Table) (p : ℕ) (v : ℕ → Bool) → 0 < p → p ≤ kept s
    → position_of (entry_at s p).lo < p → position_of (entry_at s p).hi < p
    → value_at s p v ≡ (if v (entry_at s p).level then means s (entry_at s p).hi v else means s (entry_at s p).lo v)
unfolding value_at values_of means entry_at
value_at-entry s zero v some within lo hi = absurd (omega arith)
value_at-entry s (suc j) v some within lo hi =
    values_from-node v s.nodes (false ∷ []) j (suc j) (constant_entry s.levels) (omega arith) (omega (arith, within)) lo
    hi

-- what a known id that is no constant means, by its entry
pub means-entry : (s : Table) (id : NodeId) (v : ℕ → Bool) → IsUniqueTable s → Knows s id → 0 < position_of id
    → means s id v ≡ marked_value (is_marked id)
    (if v (entry_at s (position_of id)).level then means s (entry_at s (position_of id)).hi v
    else means s (entry_at s (position_of id)).lo v)
means-entry s id v unique known inner =
    let within : position_of id ≤ kept s = omega (arith, known) in
    let e = unique.nodes (position_of id) inner within in
    means-value_at s id v ∙ ap (marked_value (is_marked id))
    (value_at-entry s (position_of id) v inner within e.lo_before e.hi_before)

-- ---- levels

-- a constant stands below all levels
pub level_of-constant : (s : Table) (id : NodeId) → position_of id ≡ 0 → level_of s id ≡ s.levels
unfolding level_of entry_at
level_of-constant s id e = ap (λ p. (get_or (entries s) p (constant_entry s.levels)).level) e

pub level_of-entry : (s : Table) (id : NodeId) → level_of s id ≡ (entry_at s (position_of id)).level
unfolding level_of
level_of-entry s id = refl

pub depth_of-entry : (s : Table) (id : NodeId) → depth_of s id ≡ rank_of s (entry_at s (position_of id)).level
depth_of-entry s id = ap (rank_of s) (level_of-entry s id)

-- the child of a kept node is known
pub knows_before : (s : Table) (id : NodeId) (p : ℕ) → position_of id < p → p ≤ kept s → Knows s id
knows_before s id p h w = omega (arith, h, w)

pub cases_position : (p : ℕ) → (p ≡ 0) ⊎ (0 < p)
cases_position zero = inl refl
cases_position (suc p) = inr (omega arith)

-- a constant means the same everywhere
pub means-constant : (s : Table) (id : NodeId) (v : ℕ → Bool) → position_of id ≡ 0 →
    means s id v ≡ marked_value (is_marked id) false
means-constant s id v e =
    means-value_at s id v ∙ ap (marked_value (is_marked id)) (ap (λ p. value_at s p v) e ∙ value_at-constant s v)

-- a node means the same where its level's value is the same and its children mean the same
means-same : (s : Table) → IsUniqueTable s → (v w : ℕ → Bool) (id : NodeId) → Knows s id → 0 < position_of id
    → v (entry_at s (position_of id)).level ≡ w (entry_at s (position_of id)).level
    → means s (entry_at s (position_of id)).hi v ≡ means s (entry_at s (position_of id)).hi w
    → means s (entry_at s (position_of id)).lo v ≡ means s (entry_at s (position_of id)).lo w
    → means s id v ≡ means s id w
means-same s unique v w id known some here hi lo =
    means-entry s id v unique known some
    ∙ (λ i. marked_value (is_marked id) (cond (here i) (hi i) (lo i)))
    ∙ sym (means-entry s id w unique known some)

-- a function does not depend on the levels that stand above its own
pub means-agree : (s : Table) → IsUniqueTable s → (v w : ℕ → Bool) (n : ℕ) (id : NodeId) → position_of id < n →
    Knows s id
    → ((k : ℕ) → depth_of s id ≤ rank_of s k → k < s.levels → v k ≡ w k) → means s id v ≡ means s id w
means-agree s unique v w zero id h known same = absurd (omega arith)
means-agree s unique v w (suc n) id h known same =
    elim (cases_position (position_of id)) [
      | inl e ↦ means-constant s id v e ∙ sym (means-constant s id w e)
      | inr some ↦
          let within : position_of id ≤ kept s = omega (arith, known) in
          let e = unique.nodes (position_of id) some within in
          let depth = depth_of-entry s id in
          means-same s unique v w id known some
          (same (entry_at s (position_of id)).level (omega (arith, depth)) e.below)
          (means-agree s unique v w n (entry_at s (position_of id)).hi (omega (arith, e.hi_before, h))
          (knows_before s _ _ e.hi_before within)
          (λ k above below. same k (omega (arith, e.hi_rises, depth, above)) below))
          (means-agree s unique v w n (entry_at s (position_of id)).lo (omega (arith, e.lo_before, h))
          (knows_before s _ _ e.lo_before within)
          (λ k above below. same k (omega (arith, e.lo_rises, depth, above)) below))
    ]

marked_value-false : (m : Bool) → marked_value m false ≡ m
marked_value-false true = refl
marked_value-false false = refl

-- a constant is true where it is `TRUE`
pub means-IsConstant : (s : Table) (id : NodeId) (v : ℕ → Bool) → IsConstant id → means s id v ≡ eqb (number_of id) 1
means-IsConstant s id v constant =
    let small : number_of id % 2 ≡ number_of id = omega (arith, constant) in
    means-constant s id v (omega (arith, constant)) ∙ marked_value-false (is_marked id) ∙ ap (λ n. eqb n 1) small

-- the kept functions are false where all levels are
pub means-all_false : (s : Table) → IsUniqueTable s → (n : ℕ) (id : NodeId) → position_of id < n → Knows s id →
    means s id (λ _. false) ≡ is_marked id
means-all_false s unique zero id h known = absurd (omega arith)
means-all_false s unique (suc n) id h known =
    elim (cases_position (position_of id)) [
      | inl e ↦ means-constant s id (λ _. false) e ∙ marked_value-false (is_marked id)
      | inr some ↦
          let within : position_of id ≤ kept s = omega (arith, known) in
          let e = unique.nodes (position_of id) some within in
          means-entry s id (λ _. false) unique known some
          ∙ ap (marked_value (is_marked id))
          (means-all_false s unique n (entry_at s (position_of id)).lo (omega (arith, e.lo_before, h))
          (knows_before s _ _ e.lo_before within) ∙ e.plain)
          ∙ marked_value-false (is_marked id)
    ]
