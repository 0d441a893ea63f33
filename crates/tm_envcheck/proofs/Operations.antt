-- Operations on sets of states, over what the sets were before.
use Rattle.std.proofs.Common.{◌≡◌, ◌⊎◌, inl, inr, ℕ, true, false, ◌&&◌, ◌||◌, not, List, sym, ◌∙◌, subst}
use Rattle.std.specs.Prelude.{◌↔◌}
use Rattle.std.proofs.lemmas.Bool.{cases_Bool}
use Rattle.tm_dd.specs.declared.node.NodeId.{NodeId}
use Rattle.tm_dd.specs.Table.{Table, means}
use Rattle.tm_ddops.specs.Manager.{IsFunction}
use Rattle.tm_envcheck.specs.Inner.Over.{IsReady}
use Rattle.tm_envcheck.proofs.Growing.{means_at, test_kept}
use Rattle.tm_envcheck.proofs.LevelParts.{first_alone, in_first_alone, test_is}
use Rattle.tm_verdict.specs.Levels.{IsForced}
use Rattle.tm_game_bits.specs.Functions.{Assignment}
use Rattle.tm_game.specs.Game.{GameData, Grows, IsOf, IsSet, IsStates, in_set}
use Rattle.tm_game.specs.Least.{test_of}
use Rattle.tm_game.proofs.Growing.{of_kept, order_kept}
use Rattle.tm_game.proofs.MadeSets.{pair_made}
use Rattle.tm_game.proofs.SetTests.{set_tells, states_set}
use Rattle.tm_sem.specs.Forcing.{Forced}
use Rattle.tm_sem.specs.State.{StateData}
use Rattle.tm_sem.specs.Step.{IsState}
use Rattle.tm_syntax.specs.Design.{DesignTree}

module _ (g h : GameData) (grows : Grows g h) (a b : NodeId) (in_a : IsSet g a) (in_b : IsSet g b) (id : NodeId) where
  pub either_value : IsFunction h.diagrams.table id (λ v. means h.diagrams.table a v || means h.diagrams.table b v) →
      (v : Assignment) →
      means h.diagrams.table id v ≡ (means g.diagrams.table a v || means g.diagrams.table b v)
  either_value is v =
      is.meaning v ∙ (λ i. means_at g h grows a in_a v i || means_at g h grows b in_b v i)

  pub both_value : IsFunction h.diagrams.table id (λ v. means h.diagrams.table a v && means h.diagrams.table b v) →
      (v : Assignment) →
      means h.diagrams.table id v ≡ (means g.diagrams.table a v && means g.diagrams.table b v)
  both_value is v =
      is.meaning v ∙ (λ i. means_at g h grows a in_a v i && means_at g h grows b in_b v i)

  -- the complement of the second
  module _ (other : NodeId)
      (other_is : (s : Table) (v : Assignment) → means s other v ≡ not (means s b v)) where
    pub without_value : IsFunction h.diagrams.table id
        (λ v. means h.diagrams.table a v && means h.diagrams.table other v) → (v : Assignment) →
        means h.diagrams.table id v ≡ (means g.diagrams.table a v && not (means g.diagrams.table b v))
    without_value is v =
        is.meaning v
        ∙ (λ i. means_at g h grows a in_a v i && other_is h.diagrams.table v i)
        ∙ (λ i. means g.diagrams.table a v && not (means_at g h grows b in_b v i))

    pub without_set : IsFunction h.diagrams.table id
        (λ v. means h.diagrams.table a v && means h.diagrams.table other v) → IsSet h id
    without_set is =
        pair_made g h grows (λ x y. x && not y) a b id in_a in_b (record {
          known = is.known;
          meaning = λ v. is.meaning v ∙ (λ i. means h.diagrams.table a v && other_is h.diagrams.table v i);
        })

-- ---- what is forced
module _ (d : DesignTree) (g h : GameData) (grows : Grows g h) (ready : IsReady g) (of : IsOf d g)
    (target forced : NodeId)
    (forced_is : IsStates d g.order h.diagrams.table (Forced d (in_set d g target)) forced) where
  forced_states : IsStates d h.order h.diagrams.table (Forced d (in_set d g target)) forced
  forced_states =
      subst (λ (o : List ℕ). IsStates d o h.diagrams.table (Forced d (in_set d g target)) forced) (sym grows.order)
      forced_is

  pub forced_set : IsSet h forced
  forced_set =
      states_set d h (of_kept g h grows d of) (order_kept g h grows ready.order) (Forced d (in_set d g target)) forced
      forced_states

  forced_iff : (s : StateData) → IsState d s → (test_of d h forced s ≡ true) ↔ IsForced d (test_of d g target) s
  forced_iff =
      set_tells d h (of_kept g h grows d of) (order_kept g h grows ready.order) (Forced d (in_set d g target)) forced
      forced_states

  pub forced_settled : (s : StateData) → IsState d s →
      IsForced d (test_of d g target) s ⊎ (¬ IsForced d (test_of d g target) s)
  forced_settled s valid = by (cases_Bool (test_of d h forced s))
    where
      by : (test_of d h forced s ≡ true) ⊎ (test_of d h forced s ≡ false) →
          IsForced d (test_of d g target) s ⊎ (¬ IsForced d (test_of d g target) s)
      by (inl is) = inl ((forced_iff s valid).0 is)
      by (inr is) = inr (λ there. let also = (forced_iff s valid).1 there in absurd (cc))

  pub unforced_value : (n : GameData) → Grows h n → (states id : NodeId) → IsSet g states →
      ((v : Assignment) → means n.diagrams.table id v
      ≡ (means h.diagrams.table states v && not (means h.diagrams.table forced v))) → (s : StateData) → IsState d s →
      (test_of d n id s ≡ true)
      ↔ ((test_of d g states s ≡ true) × (¬ IsForced d (test_of d g target) s))
  unforced_value n more states id in_states value s valid = (
    λ here.
        let parts = in_first_alone (test_of d g states s) (test_of d h forced s) (sym id_at ∙ here) in
        (parts.0, λ there. let also = (forced_iff s valid).1 there in absurd (cc (parts.1))),
    λ is.
        id_at
        ∙ first_alone (test_of d g states s) (test_of d h forced s) is.0
        (out (cases_Bool (test_of d h forced s)) is.1),
  )
    where
      id_at : test_of d n id s ≡ (test_of d g states s && not (test_of d h forced s))
      id_at =
          test_is d h n more id
          (λ v. means h.diagrams.table states v && not (means h.diagrams.table forced v)) value s
          ∙ (λ i. test_kept g h grows d states in_states i s && not (test_of d h forced s))

      out : (test_of d h forced s ≡ true) ⊎ (test_of d h forced s ≡ false) →
          (¬ IsForced d (test_of d g target) s) → test_of d h forced s ≡ false
      out (inl is) free = absurd (free ((forced_iff s valid).0 is))
      out (inr is) free = is
