-- The diagrams of a level read the levels of a state alone.
use Rattle.std.proofs.Common.{◌≡◌, ℕ, ◌<◌, Bool, true, false, List, Result, length, if◌then◌else◌, not, refl, sym, ap, ◌∙◌, subst}
use Rattle.std.proofs.lemmas.Result.{IfOk-weaker}
use Rattle.std.specs.Prelude.{IfOk}
use Rattle.tm_dd.specs.declared.node.NodeId.{NodeId}
use Rattle.tm_dd.specs.declared.node.TheConstants.{FALSE, TRUE}
use Rattle.tm_dd.specs.Table.{Table, means}
use Rattle.tm_ddops.specs.Manager.{IsFunction}
use Rattle.tm_game.proofs.MadeSets.{function_set}
use Rattle.tm_game.specs.Game.{GameData, Grows, IsSet}
use Rattle.tm_game_bits.specs.Functions.{Assignment}

-- what is made for a level of two other ids that mean no more than constants
module _ (g h : GameData) (grows : Grows g h) (level : ℕ) (below : level < length g.order) (lo hi : NodeId)
    (lo_reads : (v w : Assignment) → means h.diagrams.table lo v ≡ means h.diagrams.table lo w)
    (hi_reads : (v w : Assignment) → means h.diagrams.table hi v ≡ means h.diagrams.table hi w) where
  level_reads : (v w : Assignment) → v level ≡ w level →
      (if v level then means h.diagrams.table hi v else means h.diagrams.table lo v)
      ≡ (if w level then means h.diagrams.table hi w else means h.diagrams.table lo w)
  level_reads v w same =
      ap (λ (b : Bool). if b then means h.diagrams.table hi v else means h.diagrams.table lo v) same
      ∙ ap (λ (b : Bool). if w level then b else means h.diagrams.table lo v) (hi_reads v w)
      ∙ ap (λ (b : Bool). if w level then means h.diagrams.table hi w else b) (lo_reads v w)

  pub level_set : {E : Type 0} (r : Result NodeId E) → IfOk r (λ id. IsFunction h.diagrams.table id (λ v.
      if v level then means h.diagrams.table hi v else means h.diagrams.table lo v)) → IfOk r (IsSet h)
  level_set r made =
      IfOk-weaker r _ (IsSet h)
      (λ id is. function_set h id (λ v.
      if v level then means h.diagrams.table hi v else means h.diagrams.table lo v) is
      (λ v w same. level_reads v w (same level (subst (λ (o : List ℕ). level < length o) (sym grows.order) below))))
      made
