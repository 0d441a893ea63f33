-- The places of the old and the new order, and the bits that are seen at them.
use Rattle.std.proofs.Common.{◌≡◌, ℕ, ◌<◌, ◌≤◌, Bool, List, length, map, get_or, sym, ap, ◌∙◌, subst, arith}
use Rattle.std.specs.Prelude.{All, sum_by}
use Rattle.std.specs.List.{range_with_len}
use Rattle.std.proofs.lemmas.List.FromFn.{get_or-map-range_with_len, length-map-range_with_len}
use Rattle.std.proofs.lemmas.Option.{slice_get-get_or}
use Rattle.tm_cert.specs.declared.cert.Entry.{Entry}
use Rattle.tm_cert.specs.Nodes.{ids_of}
use Rattle.tm_dd.specs.declared.node.NodeId.{NodeId}
use Rattle.tm_dd.specs.declared.node.TheConstants.{FALSE}
use Rattle.tm_dd.specs.Table.{Table}
use Rattle.tm_game_bits.specs.Order.{IsOrder, level_in}
use Rattle.tm_game_bits.proofs.Orders.{length_order, level_of_place, order_below}
use Rattle.tm_reorder.specs.declared.fields.Field.{Field}
use Rattle.tm_reorder.specs.Inner.Clamped.{AreBits, AreClamped, AreWithin, HavePlaces, by_place}
use Rattle.tm_reorder.specs.Inner.Keys.{AreKeyed}
use Rattle.tm_reorder.specs.Inner.Moved.{seen}
use Rattle.tm_reorder.specs.Inner.Told.{SeesRight}
use Rattle.tm_reorder.proofs.Within.{width, within_agree}

module _ (order old : List ℕ) (is : IsOrder (length order) order) (old_is : IsOrder (length order) old) where
  abbrev pub levels : List ℕ
  levels = map (level_in order) (range_with_len 0 (length order))

  pub levels_long : length levels ≡ length order
  levels_long = length-map-range_with_len (level_in order) 0 (length order)

  old_length : length old ≡ length order
  old_length = length_order (length order) old old_is

  -- the level of a place
  level_at : (p : ℕ) → p < length order → get_or levels p 0 ≡ level_in order p
  level_at p below = get_or-map-range_with_len (level_in order) 0 (length order) p p 0 below (omega arith)

  pub levels_fit : All (λ l. l < length order) levels
  levels_fit k d below =
      let within : k < length order = omega (arith, levels_long, below) in
      let found = level_of_place (length order) order is k within in
      let same = get_or-map-range_with_len (level_in order) 0 (length order) k k d within (omega arith) in
      omega (arith, found.below, same)

  -- the bits are seen right where the numbers are within their fields
  pub sees_right : (s : Table) (fields : List Field) (bits : List NodeId) → sum_by width fields ≤ length order →
      AreClamped s levels fields bits → SeesRight order old fields (seen s old bits)
  sees_right s fields bits room are v level within below =
      let place = get_or old level 0 in
      let low : place < length order =
      order_below (length order) old old_is level 0 (omega (arith, below, old_length)) in
      let there : place < length bits = omega (arith, low, are.count, levels_long) in
      are.right v all place (get_or bits place FALSE) (slice_get-get_or bits place FALSE there)
      ∙ ap v (level_at place low)
    where
      all : AreWithin fields (by_place levels v) 0
      all =
          within_agree fields (λ p. v (level_in order p)) (by_place levels v) 0
          (λ q inside. ap v (sym (level_at q (omega (arith, inside, room))))) within

-- ---- what is read of a certificate, of the levels of places and of their bits is what they have
module _ (order old : List ℕ) (is : IsOrder (length order) order) (old_is : IsOrder (length order) old)
    (given_old given_levels : List ℕ) (old_same : given_old ≡ old)
    (levels_same : given_levels ≡ levels order old is old_is) (fields : List Field)
    (have : HavePlaces (length order) fields) where
  pub levels_given : (count : ℕ) → count ≡ length order → All (λ l. l < count) given_levels
  levels_given count same =
      subst (All (λ l. l < count)) (sym levels_same)
      (subst (λ (n : ℕ). All (λ l. l < n) (levels order old is old_is)) (sym same) (levels_fit order old is old_is))

  long_given : length given_levels ≡ length order
  long_given = ap length levels_same ∙ levels_long order old is old_is

  pub have_given : HavePlaces (length given_levels) fields
  have_given = subst (λ (n : ℕ). HavePlaces n fields) (sym long_given) have

  module _ (s : Table) (bits given_bits : List NodeId) (bits_same : given_bits ≡ bits)
      (clamped : AreClamped s given_levels fields bits) where
    clamped_given : AreClamped s (levels order old is old_is) fields given_bits
    clamped_given =
        subst (AreClamped s (levels order old is old_is) fields) (sym bits_same)
        (subst (λ (ls : List ℕ). AreClamped s ls fields bits) levels_same clamped)

    pub bits_given : AreBits s given_bits
    bits_given = clamped_given.known

    pub right_given : SeesRight order old fields (seen s given_old given_bits)
    right_given =
        subst (λ (os : List ℕ). SeesRight order old fields (seen s os given_bits)) (sym old_same)
        (sees_right order old is old_is s fields given_bits have.room clamped_given)

pub keys_given : (nodes given : List Entry) (keys given_keys : List ℕ) → given ≡ nodes → given_keys ≡ keys →
    All (λ key. key < ids_of nodes) keys → All (λ key. key < ids_of given) given_keys
keys_given nodes given keys given_keys same keys_same below =
    subst (All (λ key. key < ids_of given)) (sym keys_same)
    (subst (λ (es : List Entry). All (λ key. key < ids_of es) keys) (sym same) below)

pub keyed_given : (s t : Table) (see : (ℕ → Bool) → ℕ → Bool) (nodes given : List Entry) (keys given_keys : List ℕ)
    (ids given_ids : List NodeId) → t ≡ s → given ≡ nodes → given_keys ≡ keys → given_ids ≡ ids →
    AreKeyed s see given given_keys ids → AreKeyed t see nodes keys given_ids
keyed_given s t see nodes given keys given_keys ids given_ids table same keys_same ids_same are =
    subst (λ (u : Table). AreKeyed u see nodes keys given_ids) (sym table)
    (subst (λ (es : List Entry). AreKeyed s see es keys given_ids) same
    (subst (λ (ks : List ℕ). AreKeyed s see given ks given_ids) keys_same
    (subst (AreKeyed s see given given_keys) (sym ids_same) are)))
