-- The game of each design that has a game's guarded updates.
use Rattle.std.proofs.Common.{length}
use Rattle.std.specs.Prelude.{◌↔◌}
use Rattle.tm_game_bits.specs.AssignedStates.{coding_of, state_of}
use Rattle.tm_game_bits.proofs.Coded.{is_coding}
use Rattle.tm_game_bits.specs.Coding.{IsCoding}
use Rattle.tm_game_bits.specs.GameOf.{IsGameOf}
use Rattle.tm_game_bits.proofs.Predecessors.{calm_is, forced_is, stays_is}
use Rattle.tm_dd.specs.declared.node.NodeId.{NodeId}
use Rattle.tm_dd.specs.Table.{Table, means}
use Rattle.tm_flat.specs.Flat.{flat_terms}
use Rattle.tm_game_bits.specs.Diagrams.{IsSetOf, game_of}
use Rattle.tm_game_bits.specs.Forcing as bits
use Rattle.tm_game_bits.specs.Functions.{Assignment}
use Rattle.tm_game_bits.specs.States.{ReadsState}
use Rattle.tm_game_bits.proofs.Sets.{IsSetOf-same}
use Rattle.tm_game.specs.declared.game.Game.TheInside.{Inside}
use Rattle.tm_game.specs.Game.{IsOf, IsStates, in_set}
use Rattle.tm_game.specs.Layout.{IsGame, game_data}
use Rattle.tm_game.proofs.Shapes.{order_is}
use Rattle.tm_game.proofs.ToldGames.{game_told}
use Rattle.tm_game_steps.specs.Setting.{setting_of}
use Rattle.tm_sem.specs.Forcing.{Forced, IsCalm, Stays}
use Rattle.tm_sem.specs.Step.{IsState}
use Rattle.tm_syntax.specs.Design.{DesignTree}
use Rattle.tm_game_bits.proofs.Games.{is_game_of}

module _ (a : Inside) (is : IsGame a) (d : DesignTree) (of : IsOf d (game_data a)) where
  pub coding_is : IsCoding d (coding_of d a.order.items)
  coding_is =
      is_coding d a.order.items of.small
      (order_is (setting_of a.encoding) (flat_terms a.flat) a.order.items is.shape d of.flat)

  pub game_is : IsGameOf d (coding_of d a.order.items) (game_of a.dd.table a.made.steps)
  game_is =
      is_game_of a.encoding.terms d a.order.items (flat_terms a.flat) (game_of a.dd.table a.made.steps) of.flat of.room
      of.design (order_is (setting_of a.encoding) (flat_terms a.flat) a.order.items is.shape d of.flat)
      (game_told (setting_of a.encoding) (flat_terms a.flat) a.order.items is.shape is.terms d of.flat
      (game_of a.dd.table a.made.steps) a.made.movers.items is.steps.tells)

  module _ (set : NodeId) (reads : ReadsState (length a.order.items) (means a.dd.table set)) (t : Table) (id : NodeId)
    where
      pub stays_told : IsSetOf t (bits.Stays (game_of a.dd.table a.made.steps) (means a.dd.table set)) id →
          IsStates d a.order.items t (Stays d (in_set d (game_data a) set)) id
      stays_told stays =
          IsSetOf-same t (bits.Stays (game_of a.dd.table a.made.steps) (means a.dd.table set))
          (λ v. IsState d (state_of d a.order.items v)
          × Stays d (in_set d (game_data a) set) (state_of d a.order.items v)) id
          (λ v h. let there = (both v).0 h in (there.valid, there)) (λ v h. (both v).1 h.1) stays
        where
          both : (v : Assignment) → bits.Stays (game_of a.dd.table a.made.steps) (means a.dd.table set) v
              ↔ Stays d (in_set d (game_data a) set) (state_of d a.order.items v)
          both = stays_is d (coding_of d a.order.items) (game_of a.dd.table a.made.steps) coding_is game_is
              (means a.dd.table set) reads

      pub calm_told : IsSetOf t (bits.IsCalm (game_of a.dd.table a.made.steps) (means a.dd.table set)) id →
          IsStates d a.order.items t (IsCalm d (in_set d (game_data a) set)) id
      calm_told calm =
          IsSetOf-same t (bits.IsCalm (game_of a.dd.table a.made.steps) (means a.dd.table set))
          (λ v. IsState d (state_of d a.order.items v)
          × IsCalm d (in_set d (game_data a) set) (state_of d a.order.items v)) id
          (λ v h. (both v).0 h) (λ v h. (both v).1 h) calm
        where
          both : (v : Assignment) → bits.IsCalm (game_of a.dd.table a.made.steps) (means a.dd.table set) v
              ↔ (IsState d (state_of d a.order.items v)
              × IsCalm d (in_set d (game_data a) set) (state_of d a.order.items v))
          both = calm_is d (coding_of d a.order.items) (game_of a.dd.table a.made.steps) coding_is game_is
              (means a.dd.table set) reads

      pub forced_told : IsSetOf t (bits.Forced (game_of a.dd.table a.made.steps) (means a.dd.table set)) id →
          IsStates d a.order.items t (Forced d (in_set d (game_data a) set)) id
      forced_told forced =
          IsSetOf-same t (bits.Forced (game_of a.dd.table a.made.steps) (means a.dd.table set))
          (λ v. IsState d (state_of d a.order.items v)
          × Forced d (in_set d (game_data a) set) (state_of d a.order.items v)) id
          (λ v h. (both v).0 h) (λ v h. (both v).1 h) forced
        where
          both : (v : Assignment) → bits.Forced (game_of a.dd.table a.made.steps) (means a.dd.table set) v
              ↔ (IsState d (state_of d a.order.items v)
              × Forced d (in_set d (game_data a) set) (state_of d a.order.items v))
          both = forced_is d (coding_of d a.order.items) (game_of a.dd.table a.made.steps) coding_is game_is
              (means a.dd.table set) reads
