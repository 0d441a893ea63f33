-- The diagrams of entries over moved levels, one behind the other.
use Rattle.std.proofs.Common.{◌≡◌, ◌⊎◌, inl, inr, ℕ, zero, suc, ◌+◌, ◌<◌, Bool, true, false, if◌then◌else◌, List, [], ◌∷◌, ◌++◌, length, get_or, slice_get, Some, refl, sym, ◌∙◌, subst, arith}
use Rattle.std.proofs.lemmas.Bool.{cases_lt}
use Rattle.std.proofs.lemmas.List.{get_or_past, length_push}
use Rattle.std.proofs.lemmas.Option.{none-some, same_Some, slice_get-get_or, slice_get_read}
use Rattle.tm_cert.specs.declared.cert.Entry.{Entry}
use Rattle.tm_dd.specs.declared.node.Node.{Node}
use Rattle.tm_dd.specs.declared.node.NodeId.{NodeId}
use Rattle.tm_dd.specs.declared.node.TheConstants.{FALSE, TRUE}
use Rattle.tm_dd.specs.Reduced.{Extends, IsNode}
use Rattle.tm_dd.specs.Table.{Table, Knows, depth_of, means, rank_of}
use Rattle.tm_dd.proofs.CallerLaws.{Extends-refl, means-FALSE, means-TRUE}
use Rattle.tm_ddops.specs.Manager.{IsFunction}
use Rattle.tm_numbering.proofs.Items.{get_more}
use Rattle.tm_verdict.specs.Sets.{id_holds}
use Rattle.tm_verdict.proofs.Values.{always_holds, never_holds}
use Rattle.tm_reorder.specs.Inner.Clamped.{AreBits}
use Rattle.tm_reorder.specs.Inner.Moved.{AreFirstMoved, AreMoved, IsMoved, IsValueAbove, seen}
use Rattle.tm_reorder.specs.Inner.Raised.{AreBranches, IsBranch}

-- ---- the bits of old levels
-- the bit of a place is known, also where there is none
pub bit_known : (s t : Table) (bits : List NodeId) (place : ℕ) → Extends s t → AreBits s bits →
    Knows t (get_or bits place FALSE)
bit_known s t bits place grows known =
    elim (cases_lt place (length bits)) as (λ _. Knows t (get_or bits place FALSE)) [
      | inl within ↦
          let before = known place (get_or bits place FALSE) (slice_get-get_or bits place FALSE within) in
          omega (arith, grows.rises, before)
      | inr past ↦ subst (Knows t) (sym (get_or_past bits place FALSE past)) (omega arith)
    ]

pub bit_seen : (s t : Table) (order : List ℕ) (bits : List NodeId) (level : ℕ) → Extends s t → AreBits s bits →
    (v : ℕ → Bool) → means t (get_or bits (get_or order level 0) FALSE) v ≡ seen s order bits v level
bit_seen s t order bits level grows known v =
    grows.same_meaning (get_or bits (get_or order level 0) FALSE)
    (bit_known s s bits (get_or order level 0) (Extends-refl s) known) v

-- ---- one branch over a bit
-- which of the two constants a bit chooses
bit_value : (b : Bool) → (if b then true else false) ≡ b
bit_value true = refl
bit_value false = refl

-- the node over the two constants is the value of its level
pub value_above : (s : Table) (bit lo hi : NodeId) (n : Node) → IsNode s bit n → n.lo ≡ FALSE → n.hi ≡ TRUE →
    rank_of s n.level < depth_of s lo → rank_of s n.level < depth_of s hi → IsValueAbove s bit lo hi n.level
value_above s bit lo hi n node is_false is_true above_lo above_hi = record {
  below = node.below;
  lo_deeper = inr above_lo;
  hi_deeper = inr above_hi;
  value = λ v.
      node.meaning v
      ∙ (λ i. if v n.level then means s (is_true i) v else means s (is_false i) v)
      ∙ (λ i. if v n.level then means-TRUE s v i else means-FALSE s v i)
      ∙ bit_value (v n.level);
}

module _ (s t : Table) (bit lo hi id : NodeId) (grows : Extends s t) (lo_known : Knows s lo) (hi_known : Knows s hi)
  where
    abbrev IsChosen : Type 0
    IsChosen = IsFunction t id (λ v. if means s bit v then means s hi v else means s lo v)

    -- a node of the level whose value the bit is
    pub chosen_by_level : (level : ℕ) → IsValueAbove s bit lo hi level →
        IsFunction t id (λ v. if v level then means t hi v else means t lo v) → IsChosen
    chosen_by_level level above is = record {
      known = is.known;
      meaning = λ v.
          is.meaning v
          ∙ (λ i.
          if sym (above.value v) i then grows.same_meaning hi hi_known v i else grows.same_meaning lo lo_known v i);
    }

    -- a choice by the bit
    pub chosen_by_bit : Knows s bit → IsFunction t id (λ v. if means t bit v then means t hi v else means t lo v) →
        IsChosen
    chosen_by_bit bit_is_known is = record {
      known = is.known;
      meaning = λ v.
          is.meaning v
          ∙ (λ i.
          if grows.same_meaning bit bit_is_known v i
          then grows.same_meaning hi hi_known v i
          else grows.same_meaning lo lo_known v i);
    }

-- ---- the first entries
module _ (see : (ℕ → Bool) → ℕ → Bool) (nodes : List Entry) where
  pub begun : (s : Table) → AreFirstMoved s see nodes 0 (FALSE ∷ TRUE ∷ [])
  begun s = record { count = refl; each = each }
    where
      each : (k : ℕ) (id : NodeId) → slice_get (FALSE ∷ TRUE ∷ []) k ≡ Some id → IsMoved s see nodes k id
      each zero id is =
          subst (IsMoved s see nodes 0) (same_Some FALSE id is) (record {
            known = omega arith;
            meaning = λ v. means-FALSE s v ∙ sym (never_holds nodes (see v));
          })
      each (suc zero) id is =
          subst (IsMoved s see nodes 1) (same_Some TRUE id is) (record {
            known = omega arith;
            meaning = λ v. means-TRUE s v ∙ sym (always_holds nodes (see v));
          })
      each (suc (suc k)) id is = absurd (none-some id is)

  moved_kept : (s t : Table) (done : ℕ) (ids : List NodeId) → Extends s t →
      AreFirstMoved s see nodes done ids → AreFirstMoved t see nodes done ids
  moved_kept s t done ids grows are = record {
    count = are.count;
    each = λ k id is. record {
      known = omega (arith, grows.rises, (are.each k id is).known);
      meaning = λ v. grows.same_meaning id (are.each k id is).known v ∙ (are.each k id is).meaning v;
    };
  }

  -- all are there
  pub all_moved : (s : Table) (done : ℕ) (ids : List NodeId) → length nodes ≡ done →
      AreFirstMoved s see nodes done ids → AreMoved s see nodes ids
  all_moved s done ids all are = record { count = omega (arith, are.count, all); each = are.each }

  -- ---- one more entry
  module _ (nodes_are : AreBranches nodes) (done : ℕ) (e : Entry) (at : slice_get nodes done ≡ Some e) where
    node : IsBranch nodes done e
    node = nodes_are done e at

    module _ (s : Table) (ids : List NodeId) (are : AreFirstMoved s see nodes done ids) where
      pub lo_within : e.lo < length ids
      lo_within = omega (arith, node.lo_before, are.count)

      pub hi_within : e.hi < length ids
      hi_within = omega (arith, node.hi_before, are.count)

      -- what is read at a child's number
      pub lo_read : (lo : NodeId) → lo ≡ get_or ids e.lo lo → slice_get ids e.lo ≡ Some lo
      lo_read lo read = slice_get_read ids (length ids) e.lo lo refl lo_within read

      pub hi_read : (hi : NodeId) → hi ≡ get_or ids e.hi hi → slice_get ids e.hi ≡ Some hi
      hi_read hi read = slice_get_read ids (length ids) e.hi hi refl hi_within read

      pub child_known : (k : ℕ) (id : NodeId) → slice_get ids k ≡ Some id → Knows s id
      child_known k id is = (are.each k id is).known

      -- the entry is loaded behind those before it
      pub one_more : (t : Table) (bit lo hi id : NodeId) (later : List NodeId) → Extends s t →
          slice_get ids e.lo ≡ Some lo → slice_get ids e.hi ≡ Some hi →
          ((v : ℕ → Bool) → means s bit v ≡ see v e.level) →
          IsFunction t id (λ v. if means s bit v then means s hi v else means s lo v) → later ≡ ids ++ id ∷ [] →
          AreFirstMoved t see nodes (done + 1) later
      one_more t bit lo hi id later grows lo_at hi_at bit_is is items =
          subst (AreFirstMoved t see nodes (done + 1)) (sym items) (record {
            count = omega (arith, length_push ids id, are.count);
            each = λ k x there. each k x (get_more ids id k x there);
          })
        where
          hi_is : (v : ℕ → Bool) → means s hi v ≡ id_holds nodes e.hi (see v)
          hi_is v = (are.each e.hi hi hi_at).meaning v

          lo_is : (v : ℕ → Bool) → means s lo v ≡ id_holds nodes e.lo (see v)
          lo_is v = (are.each e.lo lo lo_at).meaning v

          last : IsMoved t see nodes (done + 2) id
          last = record {
            known = is.known;
            meaning = λ v.
                is.meaning v
                ∙ (λ i. if bit_is v i then hi_is v i else lo_is v i)
                ∙ sym (node.holds (see v));
          }

          each : (k : ℕ) (x : NodeId) → (slice_get ids k ≡ Some x) ⊎ ((k ≡ length ids) × (id ≡ x)) →
              IsMoved t see nodes k x
          each k x (inl p) = (moved_kept s t done ids grows are).each k x p
          each k x (inr p) =
              let place : done + 2 ≡ k = omega (arith, are.count, p.0) in
              subst (λ (n : ℕ). IsMoved t see nodes n x) place
              (subst (λ (y : NodeId). IsMoved t see nodes (done + 2) y) p.1 last)
