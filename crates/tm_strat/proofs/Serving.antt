-- The states that a candidate serves, from the pairs of its shape and from its arguments.
use Rattle.std.proofs.Common.{◌≡◌, inl, inr, ℕ, Bool, true, false, ◌&&◌, List, length, map, refl}
use Rattle.std.proofs.Common.{sym, ap, ◌∙◌, subst}
use Rattle.std.proofs.lemmas.Bool.{true≢false}
use Rattle.std.specs.Prelude.{All, Contains}
use Rattle.tm_check.specs.Replies.{move_of, shape_of}
use Rattle.tm_check.proofs.Growth.{substituted_kept}
use Rattle.tm_cir.specs.Tree.{BlockTree}
use Rattle.tm_dd.specs.declared.node.NodeId.{NodeId}
use Rattle.tm_dd.specs.declared.node.TheConstants.{FALSE}
use Rattle.tm_dd.specs.Table.{Knows, Table, means}
use Rattle.tm_dd.proofs.CallerLaws.{means-FALSE}
use Rattle.tm_ddops.specs.Manager.{IsFunction}
use Rattle.tm_ddops.specs.Operation.{substituted}
use Rattle.tm_game.specs.Game.{GameData, Grows, in_set}
use Rattle.tm_game.specs.declared.moves.MoveShape.{MoveShape}
use Rattle.tm_game.proofs.Growing.{grows_then}
use Rattle.tm_game_bits.specs.AssignedStates.{assignment_of, coding_of, state_of}
use Rattle.tm_game_bits.specs.Coding.{IsCoding}
use Rattle.tm_game_bits.specs.Functions.{Assignment}
use Rattle.tm_game_bits.specs.States.{AreOneState, ReadsState}
use Rattle.tm_game_bits.proofs.Coded.{is_coding}
use Rattle.tm_game_bits.proofs.Extended.{Knows-Extends, means-Extends}
use Rattle.tm_game_bits.proofs.Sets.{both_true}
use Rattle.tm_sem.specs.State.{StateData}
use Rattle.tm_sem.specs.Step.{IsState}
use Rattle.tm_sem.specs.declared.state.Move.{Move}
use Rattle.tm_solve_exact.specs.Exact.{IsExactOf, valid_set}
use Rattle.tm_solve_exact.specs.Listed.{and_both}
use Rattle.tm_solve_exact.proofs.Growing.{kept_exact, order_told, valid_told}
use Rattle.tm_solve_exact.proofs.Staying.{iff_same}
use Rattle.tm_strat.proofs.Gathering.{set_in}
use Rattle.tm_strat.proofs.Goods.{state_same}
use Rattle.tm_strat.proofs.ZonePairs.{in_set_kept}
use Rattle.tm_strat.specs.Choice.{id_in}
use Rattle.tm_strat.specs.Served.{IsGivenMove, IsServed, ServesOne}
use Rattle.tm_strat.specs.Targets.{AreSets}
use Rattle.tm_strat.specs.Zoned.{AreZonePairs, IsMoveFrom, IsZoneMove}
use Rattle.tm_strat.specs.declared.reading.Given.{Given}
use Rattle.tm_syntax.specs.Design.{DesignTree}

false_of : (b : Bool) → (b ≡ true → ⊥) → b ≡ false
false_of true never = absurd (never refl)
false_of false never = refl

-- a move from a zone, where the zones and targets are sets of the game
pub zone_move_kept : (d : DesignTree) (g h : GameData) → Grows g h → (zones targets : List NodeId) →
    AreSets g zones → AreSets g targets → (count : ℕ) →
    IsZoneMove d h zones targets count ≡ IsZoneMove d g zones targets count
zone_move_kept d g h grows zones targets zone_sets target_sets count =
    λ i. IsMoveFrom d (λ k. zone_same k i) (λ k. target_same k i) targets count
  where
    zone_same : (k : ℕ) → in_set d h (id_in zones k) ≡ in_set d g (id_in zones k)
    zone_same k = in_set_kept d g h grows (id_in zones k) (set_in g zones zone_sets k).known

    target_same : (k : ℕ) → in_set d h (id_in targets k) ≡ in_set d g (id_in targets k)
    target_same k = in_set_kept d g h grows (id_in targets k) (set_in g targets target_sets k).known

all_contained : (t : Table) (parts : List (ℕ × NodeId)) → All (λ (p : ℕ × NodeId). Knows t p.1) parts → (f : NodeId) →
    Contains (map (λ (p : ℕ × NodeId). p.1) parts) f → Knows t f
all_contained t parts all f there = Rattle.tm_strat.proofs.Carrying.parts_known t parts all f there

module _ (d : DesignTree) (g m h : GameData) (to_m : Grows g m) (to_h : Grows m h) (zones targets : List NodeId)
    (shapes : List MoveShape) (b : BlockTree) (pairs : NodeId) (x : Given)
    (one : ServesOne d g zones targets shapes b pairs x) (there id : NodeId)
    (placed : Knows g.diagrams.table pairs → All (λ (p : ℕ × NodeId). Knows g.diagrams.table p.1) x.parts.items →
    IsFunction m.diagrams.table there
    (λ v. means m.diagrams.table pairs (substituted m.diagrams.table x.parts.items v)))
    (fitting : Knows m.diagrams.table there → Knows m.diagrams.table x.fits →
    IsFunction h.diagrams.table id (λ v. means h.diagrams.table there v && means h.diagrams.table x.fits v)) where
  whole : Grows g h
  whole = grows_then g m h to_m to_h

  exact_h : IsExactOf d h
  exact_h = kept_exact d g one.of h whole

  put : IsFunction m.diagrams.table there
      (λ v. means m.diagrams.table pairs (substituted m.diagrams.table x.parts.items v))
  put = placed one.known one.given.parts

  fits_m : Knows m.diagrams.table x.fits
  fits_m = Knows-Extends g.diagrams.table m.diagrams.table to_m.diagrams x.fits one.given.fits

  made : IsFunction h.diagrams.table id (λ v. means h.diagrams.table there v && means h.diagrams.table x.fits v)
  made = fitting put.known fits_m

  there_same : (v : Assignment) → means h.diagrams.table there v
      ≡ means g.diagrams.table pairs (substituted g.diagrams.table x.parts.items v)
  there_same v =
      ap (λ f. f v) (means-Extends m.diagrams.table h.diagrams.table to_h.diagrams there put.known)
      ∙ put.meaning v
      ∙ ap (means m.diagrams.table pairs)
      (substituted_kept g.diagrams.table m.diagrams.table to_m.diagrams x.parts.items
      (all_contained g.diagrams.table x.parts.items one.given.parts) v)
      ∙ ap (λ f. f (substituted g.diagrams.table x.parts.items v))
      (means-Extends g.diagrams.table m.diagrams.table to_m.diagrams pairs one.known)

  fits_same : (v : Assignment) → means h.diagrams.table x.fits v ≡ means g.diagrams.table x.fits v
  fits_same v =
      ap (λ f. f v)
      (means-Extends m.diagrams.table h.diagrams.table to_h.diagrams x.fits fits_m
      ∙ means-Extends g.diagrams.table m.diagrams.table to_m.diagrams x.fits one.given.fits)

  value : (v : Assignment) → means h.diagrams.table id v
      ≡ (means g.diagrams.table pairs (substituted g.diagrams.table x.parts.items v) && means g.diagrams.table x.fits v)
  value v =
      made.meaning v ∙ (λ i. there_same v i && fits_same v i)

  -- ---- arguments that fit nowhere
  nowhere_served : x.fits ≡ FALSE → IsServed d h zones targets b id
  nowhere_served none = record {
    set = record {
      set = record {
        known = made.known;
        reads = λ v w same.
            false_of (means h.diagrams.table id v) (never v) ∙ sym (false_of (means h.diagrams.table id w) (never w));
      };
      valid = λ v held. absurd (never v held);
    };
    good = λ s state held. absurd (never (assignment_of d h.order s) held);
  }
    where
      never : (v : Assignment) → means h.diagrams.table id v ≡ true → ⊥
      never v held =
          let parts = both_true (means g.diagrams.table pairs (substituted g.diagrams.table x.parts.items v))
          (means g.diagrams.table x.fits v) (sym (value v) ∙ held) in
          true≢false
          (sym parts.1
          ∙ ap (λ (f : NodeId). means g.diagrams.table f v) none
          ∙ means-FALSE g.diagrams.table v)

  -- ---- arguments of the move
  module _ (given : IsGivenMove d g shapes b x) where
    are_pairs : AreZonePairs d g zones targets (length targets) g.diagrams.table (shape_of b) pairs
    are_pairs =
        subst (λ (shape : MoveShape).
        AreZonePairs d g zones targets (length targets) g.diagrams.table shape pairs) given.shape
        (one.are given.below)

    abbrev GoodAt : Assignment → Type 0
    GoodAt v =
        IsZoneMove d g zones targets (length targets) (state_of d g.order v) (move_of 0 b (state_of d g.order v))

    good_at : (v : Assignment) → means h.diagrams.table id v ≡ true → GoodAt v
    good_at v held =
        let parts = both_true (means g.diagrams.table pairs (substituted g.diagrams.table x.parts.items v))
        (means g.diagrams.table x.fits v) (sym (value v) ∙ held) in
        let w = substituted g.diagrams.table x.parts.items v in
        let found = are_pairs.only w parts.0 in
        subst (λ (s : StateData).
        IsZoneMove d g zones targets (length targets) s (move_of 0 b (state_of d g.order v))) (given.move.one_state v)
        (subst (λ (move : Move). IsZoneMove d g zones targets (length targets) (state_of d g.order w) move)
        (given.move.told v parts.1) found.1)

    was_good : (v : Assignment) (f : Bool) → means g.diagrams.table x.fits v ≡ f → GoodAt v →
        (means g.diagrams.table pairs (substituted g.diagrams.table x.parts.items v) && f) ≡ true
    was_good v false misfit good = absurd (given.move.forbidden v misfit good.good.allowed)
    was_good v true fit good =
        let w = substituted g.diagrams.table x.parts.items v in
        and_both (means g.diagrams.table pairs w) true
        (are_pairs.all w (
          given.task,
          subst (λ (move : Move). IsZoneMove d g zones targets (length targets) (state_of d g.order w) move)
              (sym (given.move.told v fit))
              (subst (λ (s : StateData).
              IsZoneMove d g zones targets (length targets) s (move_of 0 b (state_of d g.order v)))
              (sym (given.move.one_state v)) good),
        )) refl

    coded : IsCoding d (coding_of d g.order)
    coded = is_coding d g.order one.of.ordered.of.small (order_told d g one.of)

    moved : (v w : Assignment) → AreOneState (length g.order) v w → means h.diagrams.table id v ≡ true →
        means h.diagrams.table id w ≡ true
    moved v w same held =
        value w
        ∙ was_good w (means g.diagrams.table x.fits w) refl
        (subst (λ (s : StateData). IsZoneMove d g zones targets (length targets) s (move_of 0 b s))
        (coded.same v w same) (good_at v held))

    reads_g : ReadsState (length g.order) (means h.diagrams.table id)
    reads_g v w same =
        iff_same (means h.diagrams.table id v) (means h.diagrams.table id w) (moved v w same)
        (moved w v (λ k below. sym (same k below)))

    valid_h : (v : Assignment) → means h.diagrams.table id v ≡ true → valid_set h v ≡ true
    valid_h v held =
        (valid_told d h exact_h v).1
        (subst (IsState d) (sym (state_same d h exact_h v))
        (subst (λ (o : List ℕ). IsState d (state_of d o v)) (sym whole.order) (good_at v held).good.state))

    good_there : (s : StateData) → IsState d s → in_set d h id s →
        IsZoneMove d h zones targets (length targets) s (move_of 0 b s)
    good_there s state held =
        subst (λ (P : StateData → Move → Type 0). P s (move_of 0 b s))
        (sym (zone_move_kept d g h whole zones targets one.zone_sets one.target_sets (length targets)))
        (subst (λ (t : StateData). IsZoneMove d g zones targets (length targets) t (move_of 0 b t))
        (coded.back s state)
        (good_at (assignment_of d g.order s)
        (subst (λ (o : List ℕ). means h.diagrams.table id (assignment_of d o s) ≡ true) whole.order held)))

    move_served : IsServed d h zones targets b id
    move_served = record {
      set = record {
        set = record {
          known = made.known;
          reads = subst (λ (o : List ℕ). ReadsState (length o) (means h.diagrams.table id)) (sym whole.order) reads_g;
        };
        valid = valid_h;
      };
      good = good_there;
    }

  pub served : IsServed d h zones targets b id
  served =
      elim one.given.move as (λ _. IsServed d h zones targets b id) [
        | inl none ↦ nowhere_served none
        | inr given ↦ move_served given
      ]
