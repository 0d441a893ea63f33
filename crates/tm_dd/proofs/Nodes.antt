-- The nodes of the ids of a unique table, and that the table is reduced.
use Rattle.std.proofs.Common.{◌≡◌, ℕ, ◌+◌, ◌<◌, ◌≤◌, Bool, true, false, if◌then◌else◌, refl, sym, ap, subst, ◌∙◌, arith}
use Rattle.tm_dd.specs.declared.node.Node.{Node}
use Rattle.tm_dd.specs.declared.node.NodeId.{NodeId}
use Rattle.tm_dd.specs.NodeId.{position_of, is_marked, complement}
use Rattle.tm_dd.specs.Reduced.{IsNode, IsReduced, MeansNode}
use Rattle.tm_dd.specs.Table.{Table, kept, Knows, depth_of, entry_at, level_of, node_of, complement_node, marked_value, means, rank_of}
use Rattle.tm_dd.specs.Unique.{IsUniqueTable}
use Rattle.tm_dd.proofs.Canonical.{ids_canonical, level_of-within}
use Rattle.tm_dd.proofs.Meaning.{level_of-constant, means-agree, means-complement, means-entry, level_of-complement, level_of-entry}
use Rattle.tm_dd.proofs.NodeIdLemmas.{complement-complement, position_of-complement}

-- an id, or its complement under a mark
abbrev pub marked_id : Bool → NodeId → NodeId
marked_id m id = if m then complement id else id

pub means-marked_id : (s : Table) (m : Bool) (id : NodeId) (v : ℕ → Bool) →
    means s (marked_id m id) v ≡ marked_value m (means s id v)
means-marked_id s true id v = means-complement s id v
means-marked_id s false id v = refl

pub level_of-marked_id : (s : Table) (m : Bool) (id : NodeId) → level_of s (marked_id m id) ≡ level_of s id
level_of-marked_id s true id = level_of-complement s id
level_of-marked_id s false id = refl

pub depth_of-marked_id : (s : Table) (m : Bool) (id : NodeId) → depth_of s (marked_id m id) ≡ depth_of s id
depth_of-marked_id s m id = ap (rank_of s) (level_of-marked_id s m id)

pub position_of-marked_id : (m : Bool) (id : NodeId) → position_of (marked_id m id) ≡ position_of id
position_of-marked_id true id = position_of-complement id
position_of-marked_id false id = refl

pub marked_id-marked_id : (m : Bool) (id : NodeId) → marked_id m (marked_id m id) ≡ id
marked_id-marked_id true id = complement-complement id
marked_id-marked_id false id = refl

-- ids that are equal under a mark are equal
pub marked_id-cancel : (m : Bool) (f g : NodeId) → marked_id m f ≡ marked_id m g → f ≡ g
marked_id-cancel m f g e = sym (marked_id-marked_id m f) ∙ ap (marked_id m) e ∙ marked_id-marked_id m g

-- a node under a mark
abbrev pub marked_node : Bool → Node → Node
marked_node m n = record { level = n.level; lo = marked_id m n.lo; hi = marked_id m n.hi }

pub node_of-entry : (s : Table) (id : NodeId) → node_of s id ≡ marked_node (is_marked id) (entry_at s (position_of id))
unfolding node_of
node_of-entry s id =
    elim (is_marked id) as (λ m.
    (if m then complement_node (entry_at s (position_of id)) else entry_at s (position_of id))
    ≡ marked_node m (entry_at s (position_of id))) [
      | true ↦ refl
      | false ↦ refl
    ]

marked_value-branch : (m c a b : Bool) →
    marked_value m (if c then a else b) ≡ (if c then marked_value m a else marked_value m b)
marked_value-branch m true a b = refl
marked_value-branch m false a b = refl

-- an id whose position is that of a node means what its node means
pub means-marked_node : (s : Table) → IsUniqueTable s → (id : NodeId) → Knows s id → 0 < position_of id
    → MeansNode s id (marked_node (is_marked id) (entry_at s (position_of id)))
means-marked_node s unique id known some v =
    let n = entry_at s (position_of id) in
    let lo = sym (means-marked_id s (is_marked id) n.lo v) in
    let hi = sym (means-marked_id s (is_marked id) n.hi v) in
    means-entry s id v unique known some
    ∙ marked_value-branch (is_marked id) (v n.level) (means s n.hi v) (means s n.lo v)
    ∙ (λ i. if v n.level then hi i else lo i)

pub is_node : (s : Table) → IsUniqueTable s → (id : NodeId) → Knows s id → 0 < position_of id →
    IsNode s id (marked_node (is_marked id) (entry_at s (position_of id)))
is_node s unique id known some =
    let within : position_of id ≤ kept s = omega (arith, known) in
    let n = entry_at s (position_of id) in
    let e = unique.nodes (position_of id) some within in
    let lo = position_of-marked_id (is_marked id) n.lo in
    let hi = position_of-marked_id (is_marked id) n.hi in
    record {
      level = sym (level_of-entry s id);
      below = e.below;
      lo_known = omega (arith, lo, e.lo_before, within);
      hi_known = omega (arith, hi, e.hi_before, within);
      lo_smaller = omega (arith, lo, e.lo_before);
      hi_smaller = omega (arith, hi, e.hi_before);
      lo_rises = omega (arith, depth_of-marked_id s (is_marked id) n.lo, e.lo_rises);
      hi_rises = omega (arith, depth_of-marked_id s (is_marked id) n.hi, e.hi_rises);
      differ = λ same. e.differ (marked_id-cancel (is_marked id) n.lo n.hi same);
      meaning = means-marked_node s unique id known some;
    }

-- a unique table is reduced
pub reduced : (s : Table) → IsUniqueTable s → IsReduced s
reduced s unique = record {
  ranks = unique.ranks;
  nodes = λ id known inner.
      subst (IsNode s id) (sym (node_of-entry s id)) (is_node s unique id known (omega (arith, inner)));
  constants = λ id constant. level_of-constant s id (omega (arith, constant));
  within = level_of-within s unique;
  independent = λ id known v w same. means-agree s unique v w (position_of id + 1) id (omega arith) known same;
  canonical = ids_canonical s unique;
}
