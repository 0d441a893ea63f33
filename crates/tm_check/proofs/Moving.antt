-- The good moves of shapes, one after the other.
use Rattle.std.proofs.Common.{◌≡◌, ℕ, ◌+◌, ◌⊎◌, inl, inr, List, [], ◌∷◌, ◌++◌, Some, length, get_or, refl}
use Rattle.std.proofs.Common.{sym, ap, ◌∙◌, subst, arith}
use Rattle.std.specs.Prelude.{slice_get}
use Rattle.std.proofs.lemmas.List.{length_push}
use Rattle.std.proofs.lemmas.Option.{slice_get-get_or}
use Rattle.tm_check.specs.Good.{AreMovesFor}
use Rattle.tm_check.proofs.Pushed.{pushed_at}
use Rattle.tm_game_bits.specs.AssignedStates.{coding_of, state_of}
use Rattle.tm_game_bits.specs.Coding.{IsIn}
use Rattle.tm_dd.specs.declared.node.NodeId.{NodeId}
use Rattle.tm_dd.specs.Reduced.{Extends}
use Rattle.tm_dd.specs.Table.{Knows, Table}
use Rattle.tm_game_bits.proofs.Extended.{IsSetOf-Extends, Knows-Extends}
use Rattle.tm_game.specs.declared.moves.MoveShape.{MoveShape}
use Rattle.tm_game.specs.Game.{GameData, Grows, in_set}
use Rattle.tm_game.specs.Moves.{AreMoves, IsGoodMove, move_at}
use Rattle.tm_sem.specs.State.{StateData}
use Rattle.tm_syntax.specs.Design.{DesignTree}
use Rattle.tm_term.proofs.Growth.{element_at}
use Rattle.tm_game.proofs.Growing.{means_kept}

-- a set holds the same states along a game that grows
pub in_set_kept : (d : DesignTree) (g h : GameData) → Grows g h → (set : NodeId) → Knows g.diagrams.table set →
    in_set d h set ≡ in_set d g set
in_set_kept d g h grows set known =
    let same = means_kept g h grows set known in
    λ i. IsIn (coding_of d (grows.order i)) (same i)

module _ (d : DesignTree) (order : List ℕ) (within : StateData → Type 0) (shapes : List MoveShape) where
  -- the good moves of the first shapes
  pub record AreFirstMoves (s : Table) (count : ℕ) (ids : List NodeId) : Type 0 where
    pub long : length ids ≡ count
    pub each : (k : ℕ) (shape : MoveShape) (id : NodeId) → slice_get shapes k ≡ Some shape →
        slice_get ids k ≡ Some id → AreMoves d order s shape within id

  pub moves_none : (s : Table) → AreFirstMoves s 0 []
  moves_none s = record { long = refl; each = λ k shape id this there. absurd (cc) }

  pub moves_more : (s t : Table) (count : ℕ) (ids : List NodeId) (shape : MoveShape) (id : NodeId) → Extends s t →
      AreFirstMoves s count ids → slice_get shapes count ≡ Some shape → AreMoves d order t shape within id →
      AreFirstMoves t (count + 1) (ids ++ id ∷ [])
  moves_more s t count ids shape id e are this is = record {
    long = omega (arith, length_push ids id, are.long);
    each = each;
  }
    where
      each : (k : ℕ) (other : MoveShape) (x : NodeId) → slice_get shapes k ≡ Some other →
          slice_get (ids ++ id ∷ []) k ≡ Some x → AreMoves d order t other within x
      each k other x there found = by (pushed_at ids id k x found)
        where
          by : (slice_get ids k ≡ Some x) ⊎ ((k ≡ length ids) × (id ≡ x)) → AreMoves d order t other within x
          by (inl before) =
              IsSetOf-Extends s t e (λ v. IsGoodMove d within (state_of d order v) (move_at d order other v)) x
              (are.each k other x there before)
          by (inr (last, same)) =
              let place : k ≡ count = last ∙ are.long in
              let one : Some other ≡ Some shape = sym there ∙ ap (slice_get shapes) place ∙ this in
              let shape_is : shape ≡ other = cc in
              subst (λ (y : NodeId). AreMoves d order t other within y) same
              (subst (λ (z : MoveShape). AreMoves d order t z within id) shape_is is)

  pub moves_all : (s : Table) (count : ℕ) (ids : List NodeId) → length shapes ≡ count → AreFirstMoves s count ids →
      AreMovesFor d order s within shapes ids
  moves_all s count ids all are = record {
    known = λ k x below.
        let there = slice_get-get_or ids k x below in
        let shape = element_at shapes k (omega (arith, below, are.long)) in
        (are.each k shape.0 (get_or ids k x) shape.1 there).known;
    count = are.long ∙ sym all;
    each = are.each;
  }

  pub moves_kept : (s t : Table) (ids : List NodeId) → Extends s t → AreMovesFor d order s within shapes ids →
      AreMovesFor d order t within shapes ids
  moves_kept s t ids e are = record {
    known = λ k x below. Knows-Extends s t e (get_or ids k x) (are.known k x below);
    count = are.count;
    each = λ k shape id this there.
        IsSetOf-Extends s t e (λ v. IsGoodMove d within (state_of d order v) (move_at d order shape v)) id
        (are.each k shape id this there);
  }
