-- The pairs of states and of arguments at which moves are good from zones: how they are found, and what they read.
use Rattle.std.proofs.Common.{◌≡◌, ◌⊎◌, inl, inr, ℕ, ◌+◌, ◌<◌, ◌≤◌, true, false, ◌&&◌, ◌||◌, List, length, refl}
use Rattle.std.proofs.Common.{sym, ap, ◌∙◌, subst, arith}
use Rattle.std.proofs.lemmas.Bool.{cases_lt, true≢false}
use Rattle.std.specs.Option.{option_map_or}
use Rattle.tm_dd.specs.declared.node.NodeId.{NodeId}
use Rattle.tm_dd.specs.declared.node.TheConstants.{FALSE}
use Rattle.tm_dd.specs.Table.{Knows, Table, means}
use Rattle.tm_dd.proofs.CallerLaws.{means-FALSE}
use Rattle.tm_ddops.specs.Manager.{IsFunction}
use Rattle.tm_flat.specs.Inputs.{arguments_in, room}
use Rattle.tm_game.specs.Game.{GameData, Grows, IsSet, in_set}
use Rattle.tm_game.specs.Moves.{AreMoves, HasTask, IsGoodMove, move_at}
use Rattle.tm_game.specs.declared.moves.MoveShape.{MoveShape}
use Rattle.tm_game.specs.declared.moves.MoveShape.TheVariants.{Call, Idle, Leave}
use Rattle.tm_game_bits.specs.AssignedStates.{coding_of, state_of}
use Rattle.tm_game_bits.specs.Coding.{IsCoding}
use Rattle.tm_game_bits.specs.Diagrams.{IsSetOf}
use Rattle.tm_game_bits.specs.Functions.{Assignment}
use Rattle.tm_game_bits.specs.Inputs.{arguments_at}
use Rattle.tm_game_bits.specs.States.{AreOneState, ReadsState}
use Rattle.tm_game_bits.proofs.Bits.{bits_agree}
use Rattle.tm_game_bits.proofs.Coded.{is_coding}
use Rattle.tm_game_bits.proofs.Extended.{Knows-Extends, means-Extends}
use Rattle.tm_game_bits.proofs.Sets.{both_true, some_true, true_first, true_second}
use Rattle.tm_sem.specs.State.{StateData}
use Rattle.tm_sem.specs.Step.{task_of}
use Rattle.tm_sem.specs.declared.state.Move.{Move}
use Rattle.tm_sem.specs.declared.state.Move.TheVariants as moves
use Rattle.tm_syntax.specs.Design.{DesignTree}
use Rattle.tm_syntax.specs.Design.Cells.{Called}
use Rattle.tm_solve_exact.specs.Exact.{IsExactOf}
use Rattle.tm_solve_exact.specs.Listed.{and_both}
use Rattle.tm_solve_exact.proofs.Growing.{order_told}
use Rattle.tm_solve_exact.proofs.Staying.{iff_same}
use Rattle.tm_strat.specs.Choice.{id_in}
use Rattle.tm_strat.specs.Zoned.{AreZonePairs, IsPairFrom, IsZoneMove, IsZonePair}

-- ---- one zone
-- from no zone is a move good where one is empty, or the task is not there
pub no_pairs : (d : DesignTree) (g : GameData) (t : Table) (states target : NodeId) (shape : MoveShape) →
    ¬ ((¬ (states ≡ FALSE)) × (¬ (target ≡ FALSE)) × HasTask g.flat shape) →
    IsSetOf t (IsPairFrom d g states target shape) FALSE
no_pairs d g t states target shape never = record {
  known = omega arith;
  only = λ v h. absurd (true≢false (sym h ∙ means-FALSE t v));
  all = λ v h. absurd (never ((λ e. there v h.1 e), h.2, h.0));
}
  where
    there : (v : Assignment) → means g.diagrams.table states v ≡ true → states ≡ FALSE → ⊥
    there v held e =
        true≢false
        (sym held ∙ ap (λ (i : NodeId). means g.diagrams.table i v) e ∙ means-FALSE g.diagrams.table v)

-- both of a zone and of the moves that are good for its target
pub pairs_from : (d : DesignTree) (g m h : GameData) (states target legal id : NodeId) (shape : MoveShape) →
    Grows g m → Grows m h → Knows g.diagrams.table states → ¬ (target ≡ FALSE) → HasTask g.flat shape →
    AreMoves d g.order m.diagrams.table shape (in_set d g target) legal →
    (Knows m.diagrams.table states → Knows m.diagrams.table legal →
    IsFunction h.diagrams.table id (λ v. means h.diagrams.table states v && means h.diagrams.table legal v)) →
    IsSetOf h.diagrams.table (IsPairFrom d g states target shape) id
pairs_from d g m h states target legal id shape one two known some there are answer = record {
  known = made.known;
  only = λ v held.
      let parts = both_true (means h.diagrams.table states v) (means h.diagrams.table legal v)
      (sym (made.meaning v) ∙ held) in
      (there, sym (zone_same v) ∙ parts.0, some, are.only v (sym (legal_same v) ∙ parts.1));
  all = λ v held.
      made.meaning v
      ∙ and_both (means h.diagrams.table states v) (means h.diagrams.table legal v) (zone_same v ∙ held.1)
      (legal_same v ∙ are.all v held.3);
}
  where
    there_m : Knows m.diagrams.table states
    there_m = Knows-Extends g.diagrams.table m.diagrams.table one.diagrams states known

    made : IsFunction h.diagrams.table id (λ v. means h.diagrams.table states v && means h.diagrams.table legal v)
    made = answer there_m are.known

    zone_same : (v : Assignment) → means h.diagrams.table states v ≡ means g.diagrams.table states v
    zone_same v =
        ap (λ f. f v)
        (means-Extends m.diagrams.table h.diagrams.table two.diagrams states there_m
        ∙ means-Extends g.diagrams.table m.diagrams.table one.diagrams states known)

    legal_same : (v : Assignment) → means h.diagrams.table legal v ≡ means m.diagrams.table legal v
    legal_same v = ap (λ f. f v) (means-Extends m.diagrams.table h.diagrams.table two.diagrams legal are.known)

-- where the game has grown, an id is still of the set that it was of
pub in_set_kept : (d : DesignTree) (g h : GameData) → Grows g h → (id : NodeId) → Knows g.diagrams.table id →
    in_set d h id ≡ in_set d g id
in_set_kept d g h grows id known =
    let same = means-Extends g.diagrams.table h.diagrams.table grows.diagrams id known in
    λ i s. same i ((coding_of d (grows.order i)).assignment_of s) ≡ true

pub pair_from_kept : (d : DesignTree) (g h : GameData) → Grows g h → (states target : NodeId) →
    Knows g.diagrams.table states → Knows g.diagrams.table target → (shape : MoveShape) →
    IsPairFrom d h states target shape ≡ IsPairFrom d g states target shape
pair_from_kept d g h grows states target known target_known shape =
    let same = means-Extends g.diagrams.table h.diagrams.table grows.diagrams states known in
    let target_same = in_set_kept d g h grows target target_known in
    λ i v.
    HasTask (grows.flat i) shape × (same i v ≡ true) × ¬ (target ≡ FALSE)
    × IsGoodMove d (target_same i) (state_of d (grows.order i) v) (move_at d (grows.order i) shape v)

-- ---- all zones
module _ (d : DesignTree) (g : GameData) (is : IsExactOf d g) where
  one_coding : IsCoding d (coding_of d g.order)
  one_coding = is_coding d g.order is.ordered.of.small (order_told d g is)

  -- a set that reads the state alone holds at values of levels exactly where it has their state
  pub holds_there : (id : NodeId) → IsSet g id → (v : Assignment) →
      means g.diagrams.table id ((coding_of d g.order).assignment_of (state_of d g.order v))
      ≡ means g.diagrams.table id v
  holds_there id set v =
      set.reads ((coding_of d g.order).assignment_of (state_of d g.order v)) v
      (one_coding.one ((coding_of d g.order).assignment_of (state_of d g.order v)) v (one_coding.again v))

  module _ (zones targets : List NodeId) where
    pub zones_none : (t : Table) (shape : MoveShape) → AreZonePairs d g zones targets 0 t shape FALSE
    zones_none t shape = record {
      known = omega arith;
      only = λ v h. absurd (true≢false (sym h ∙ means-FALSE t v));
      all = λ v h. let low = h.1.below in absurd (omega (arith, low));
    }

    -- one zone more
    pub zones_more : (t u : Table) (n : ℕ) (shape : MoveShape) (good here id : NodeId) →
        IsSet g (id_in zones n) → AreZonePairs d g zones targets n u shape good →
        IsSetOf u (IsPairFrom d g (id_in zones n) (id_in targets n) shape) here →
        IsFunction t id (λ v. means t good v || means t here v) →
        ((i : NodeId) → Knows u i → means t i ≡ means u i) →
        AreZonePairs d g zones targets (n + 1) t shape id
    zones_more t u n shape good here id set before last made kept = record {
      known = made.known;
      only = λ v held.
          only v (some_true (means t good v) (means t here v) (sym (made.meaning v) ∙ held));
      all = λ v held. made.meaning v ∙ all v held (cases_lt held.1.at n);
    }
      where
        good_same : (v : Assignment) → means t good v ≡ means u good v
        good_same v = ap (λ f. f v) (kept good before.known)

        here_same : (v : Assignment) → means t here v ≡ means u here v
        here_same v = ap (λ f. f v) (kept here last.known)

        only : (v : Assignment) → (means t good v ≡ true) ⊎ (means t here v ≡ true) →
            IsZonePair d g zones targets (n + 1) shape v
        only v (inl earlier) =
            let found = before.only v (sym (good_same v) ∙ earlier) in
            let low = found.1.below in (
              found.0,
              record {
                at = found.1.at;
                below = omega (arith, low);
                here = found.1.here;
                some = found.1.some;
                good = found.1.good;
              },
            )
        only v (inr now) =
            let found = last.only v (sym (here_same v) ∙ now) in (
              found.0,
              record {
                at = n;
                below = omega arith;
                here = holds_there (id_in zones n) set v ∙ found.1;
                some = found.2;
                good = found.3;
              },
            )

        all : (v : Assignment) (held : IsZonePair d g zones targets (n + 1) shape v) →
            (held.1.at < n) ⊎ (n ≤ held.1.at) → (means t good v || means t here v) ≡ true
        all v held (inl low) =
            true_first (means t good v) (means t here v)
            (good_same v
            ∙ before.all v (
              held.0,
              record {
                at = held.1.at;
                below = low;
                here = held.1.here;
                some = held.1.some;
                good = held.1.good;
              },
            ))
        all v held (inr high) =
            let under = held.1.below in
            let same : held.1.at ≡ n = omega (arith, high, under) in
            true_second (means t good v) (means t here v)
            (here_same v
            ∙ last.all v (
              held.0,
              sym (holds_there (id_in zones n) set v)
                  ∙ subst (λ (k : ℕ). in_set d g (id_in zones k) (state_of d g.order v)) same held.1.here,
              subst (λ (k : ℕ). ¬ (id_in targets k ≡ FALSE)) same held.1.some,
              subst (λ (k : ℕ).
                  IsGoodMove d (in_set d g (id_in targets k)) (state_of d g.order v) (move_at d g.order shape v)) same
                  held.1.good,
            ))

  -- ---- what pairs read
  same_state : (v w : Assignment) → AreOneState (length g.order + room) v w →
      state_of d g.order v ≡ state_of d g.order w
  same_state v w one = one_coding.same v w (λ k below. one k (omega (arith, below)))

  same_arguments : (v w : Assignment) → AreOneState (length g.order + room) v w →
      arguments_at g.order v ≡ arguments_at g.order w
  same_arguments v w one = bits_agree v w (length g.order) room (λ k above below. one k below)

  same_move : (shape : MoveShape) (v w : Assignment) → AreOneState (length g.order + room) v w →
      move_at d g.order shape v ≡ move_at d g.order shape w
  same_move Idle v w one = refl
  same_move (Leave p) v w one = refl
  same_move (Call n) v w one =
      ap (λ (bits : List ℕ).
      option_map_or (λ (callee : Called). moves.Call n (arguments_in d callee.params bits)) (task_of d n) moves.Idle)
      (same_arguments v w one)

  module _ (zones targets : List NodeId) (count : ℕ) (t : Table) (shape : MoveShape) (id : NodeId)
      (are : AreZonePairs d g zones targets count t shape id) where
    same_pair : (v w : Assignment) → AreOneState (length g.order + room) v w → means t id v ≡ true →
        means t id w ≡ true
    same_pair v w one held =
        let found = are.only v held in
        are.all w (
          found.0,
          subst (λ (m : Move). IsZoneMove d g zones targets count (state_of d g.order w) m) (same_move shape v w one)
              (subst (λ (s : StateData). IsZoneMove d g zones targets count s (move_at d g.order shape v))
              (same_state v w one) found.1),
        )

    pub pairs_read : ReadsState (length g.order + room) (means t id)
    pairs_read v w one =
        iff_same (means t id v) (means t id w) (same_pair v w one) (same_pair w v (λ k below. sym (one k below)))
