-- The set of an id, as a diagram.
use Rattle.std.proofs.Common.{◌≡◌, ℕ, Bool, true, List, Some, length, sym, ◌∙◌, arith}
use Rattle.std.specs.Prelude.{◌&&◌, slice_get}
use Rattle.tm_game_bits.specs.AssignedStates.{coding_of, state_of}
use Rattle.tm_cert.specs.declared.cert.Entry.{Entry}
use Rattle.tm_game_bits.specs.Coding.{IsCoding}
use Rattle.tm_dd.specs.declared.node.NodeId.{NodeId}
use Rattle.tm_dd.specs.Reduced.{Extends}
use Rattle.tm_dd.specs.Table.{Table, means}
use Rattle.tm_ddops.specs.Manager.{IsFunction}
use Rattle.tm_game_bits.proofs.Extended.{IsSetOf-Extends}
use Rattle.tm_game_bits.proofs.Sets.{both_true}
use Rattle.tm_game.specs.Game.{IsStates}
use Rattle.tm_verdict.specs.Loaded.{AreLoaded}
use Rattle.tm_verdict.specs.Fitting.{AreNodes}
use Rattle.tm_verdict.specs.Sets.{bit_at, id_holds, set_of}
use Rattle.tm_verdict.proofs.Values.{reads_levels}
use Rattle.tm_syntax.specs.Design.{DesignTree}

-- a loaded id stays what it is where a table has grown
pub loaded_still : (s t : Table) (nodes : List Entry) (ids : List NodeId) (k : ℕ) (id : NodeId) → Extends s t →
    AreLoaded s nodes ids → slice_get ids k ≡ Some id → IsFunction t id (id_holds nodes k)
loaded_still s t nodes ids k id grows are is =
    let was = are.each k id is in
    record {
      known = omega (arith, grows.rises, was.known);
      meaning = λ v. grows.same_meaning id was.known v ∙ was.meaning v;
    }

module _ (d : DesignTree) (order : List ℕ) (coding : IsCoding d (coding_of d order)) (nodes : List Entry)
    (nodes_are : AreNodes (length order) nodes) where
  -- at values of levels an id holds where it holds at their state
  at_state : (k : ℕ) (v : ℕ → Bool) → id_holds nodes k v ≡ set_of d order nodes k (state_of d order v)
  at_state k v =
      reads_levels (length order) k nodes v (bit_at d order (state_of d order v)) nodes_are
      (coding.one v (bit_at d order (state_of d order v)) (sym (coding.again v)))

  pub set_is : (s : Table) (valid id : NodeId) (k : ℕ) → IsStates d order s (λ t. Unit {0}) valid →
      IsFunction s id (λ v. means s valid v && id_holds nodes k v) →
      IsStates d order s (λ t. set_of d order nodes k t ≡ true) id
  set_is s valid id k valid_is is = record {
    known = is.known;
    only = λ v there.
        let parts = both_true (means s valid v) (id_holds nodes k v) (sym (is.meaning v) ∙ there) in
        ((valid_is.only v parts.0).0, sym (at_state k v) ∙ parts.1);
    all = λ v such.
        is.meaning v ∙ (λ i. valid_is.all v (such.0, tt) i && (at_state k v ∙ such.1) i);
  }

  -- the set of a loaded id, once it is conjoined with the valid states
  pub loaded_set : (s t : Table) (valid other id : NodeId) (ids : List NodeId) (k : ℕ) → Extends s t →
      IsStates d order s (λ u. Unit {0}) valid → AreLoaded s nodes ids → slice_get ids k ≡ Some other →
      IsFunction t id (λ v. means t valid v && means t other v) →
      IsStates d order t (λ u. set_of d order nodes k u ≡ true) id
  loaded_set s t valid other id ids k grows valid_is are there is =
      let own = loaded_still s t nodes ids k other grows are there in
      set_is t valid id k (IsSetOf-Extends s t grows _ valid valid_is)
      (record {
        known = is.known;
        meaning = λ v. is.meaning v ∙ (λ i. means t valid v && own.meaning v i);
      })
