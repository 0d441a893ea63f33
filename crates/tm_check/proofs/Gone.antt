-- The blocks of a driver gone over, from the last to the first.
use Rattle.std.proofs.Common.{◌≡◌, ℕ, ◌+◌, ◌-◌, ◌<◌, List, Some, length, get_or, sym, ◌∙◌, subst, arith}
use Rattle.std.specs.Prelude.{slice_get}
use Rattle.std.proofs.lemmas.Option.{slice_get-get_or}
use Rattle.tm_check.specs.declared.replies.Replies.{Replies}
use Rattle.tm_check.specs.declared.replies.Reply.{Reply}
use Rattle.tm_check.specs.Good.{AreMovesFor, FitsReply, IsAnsweredWell, IsGoodFrom, IsGoodReply}
use Rattle.tm_check.specs.Replies.{AreReplies, IsReply}
use Rattle.tm_check.proofs.Answering.{AreBehind, reply_fits, reply_good}
use Rattle.tm_check.proofs.KeepingReplies.{replies_kept}
use Rattle.tm_cir.specs.Fit.{FitBlocks, FitsBlock}
use Rattle.tm_cir.specs.Tree.{BlockTree}
use Rattle.tm_dd.specs.declared.node.NodeId.{NodeId}
use Rattle.tm_dd.specs.Table.{Table}
use Rattle.tm_game.specs.Game.{GameData, Grows, IsStates}
use Rattle.tm_sem.specs.State.{StateData}
use Rattle.tm_syntax.specs.Design.{DesignTree}
use Rattle.tm_term.proofs.Growth.{element_at}

module _ (d : DesignTree) (g h : GameData) (grows : Grows g h) (goal : ℕ) (bs : List BlockTree) (r : Replies)
    (within : StateData → Type 0) (moves from_last : List NodeId) (count at : ℕ) (blocks : FitBlocks d bs)
    (are : AreReplies d g goal bs r)
    (moves_are : AreMovesFor d g.order h.diagrams.table within r.shapes.items moves)
    (behind : AreBehind d g.order h.diagrams.table bs goal within count from_last)
    (all : count ≡ length r.list.items) (place : length from_last + at + 1 ≡ count) where
  here : (b : BlockTree) × (slice_get bs at ≡ Some b)
  here = element_at bs at (omega (arith, are.count))

  fits_here : FitsBlock d count at here.0
  fits_here =
      subst (λ (n : ℕ). FitsBlock d n at here.0) (sym (all ∙ are.count)) (blocks.each at here.0 here.1)

  reply_here : (x : Reply) → slice_get r.list.items at ≡ Some x →
      IsReply d g.order h.diagrams.table goal r.shapes.items here.0 x
  reply_here x there =
      subst (λ (o : List ℕ). IsReply d o h.diagrams.table goal r.shapes.items here.0 x) grows.order
      ((replies_kept d g h grows goal bs r are).each at here.0 x here.1 there)

  -- the next block leads to blocks that were gone over, and moves by a shape that is there
  pub next_fits : (x : Reply) → slice_get r.list.items at ≡ Some x →
      FitsReply h.diagrams.table moves from_last count x
  next_fits x there =
      reply_fits d g.order h.diagrams.table bs goal count at r.shapes.items moves from_last here.0 x fits_here
      (reply_here x there) place
      (λ k id inside.
      (behind.each k (get_or from_last k id) (slice_get-get_or from_last k id inside)).known) moves_are.count
      moves_are.known

  -- it ends well where an id holds
  pub next_good : (u : Table) (x : Reply) (id : NodeId) → slice_get r.list.items at ≡ Some x →
      IsGoodReply h.diagrams.table u moves from_last count x id →
      IsStates d g.order u (IsGoodFrom d bs goal within (count - 1 - length from_last)) id
  next_good u x id there good =
      let same : at ≡ count - 1 - length from_last = omega (arith, place) in
      subst (λ (n : ℕ). IsStates d g.order u (IsGoodFrom d bs goal within n) id) same
      (reply_good d g.order h.diagrams.table bs goal count at r.shapes.items moves from_last u within id moves_are
      behind place here.0 x here.1 fits_here (reply_here x there) good)

-- once all blocks are gone over, the last id says where the answer is good
pub answered : (d : DesignTree) (order : List ℕ) (s : Table) (bs : List BlockTree) (goal : ℕ)
    (within : StateData → Type 0) (count : ℕ) (from_last : List NodeId) (id : NodeId) →
    AreBehind d order s bs goal within count from_last → slice_get from_last (count - 1) ≡ Some id → 0 < count →
    IsStates d order s (IsAnsweredWell d bs goal within) id
answered d order s bs goal within count from_last id behind there some =
    let first : count - 1 - (count - 1) ≡ 0 = omega arith in
    subst (λ (n : ℕ). IsStates d order s (IsGoodFrom d bs goal within n) id) first (behind.each (count - 1) id there)
