-- A set of states of a design, as an id that reads the levels of a state alone and as a test of states.
use Rattle.std.proofs.Common.{◌≡◌, true, sym, subst}
use Rattle.std.specs.Prelude.{◌↔◌}
use Rattle.std.proofs.lemmas.Bool.Decides.{same_from_decides}
use Rattle.tm_game_bits.specs.AssignedStates.{assignment_of, coding_of}
use Rattle.tm_game_bits.proofs.Coded.{is_coding}
use Rattle.tm_game_bits.specs.Coding.{IsCoding}
use Rattle.tm_dd.specs.declared.node.NodeId.{NodeId}
use Rattle.tm_dd.specs.Table.{means}
use Rattle.tm_game.specs.Game.{GameData, IsOf, IsSet, IsStates}
use Rattle.tm_game.specs.Least.{test_of}
use Rattle.tm_game.specs.Start.{state_bits_in}
use Rattle.tm_game.proofs.Ordered.{order_is}
use Rattle.tm_game_bits.specs.Order.{IsOrder}
use Rattle.tm_sem.specs.State.{StateData}
use Rattle.tm_sem.specs.Step.{IsState}
use Rattle.tm_syntax.specs.Design.{DesignTree}

module _ (d : DesignTree) (g : GameData) (of : IsOf d g) (order : IsOrder (state_bits_in g.flat) g.order) where
  -- the levels of a state code the states of the design
  pub coding_told : IsCoding d (coding_of d g.order)
  coding_told = is_coding d g.order of.small (order_is g.terms d g.flat of.flat g.order order)

  -- at valid states a set of states is what it is of
  pub set_tells : (IsSuch : StateData → Type 0) (id : NodeId) → IsStates d g.order g.diagrams.table IsSuch id →
      (s : StateData) → IsState d s → (test_of d g id s ≡ true) ↔ IsSuch s
  set_tells IsSuch id set s state =
      let back = coding_told.back s state in (
        λ h. subst IsSuch back (set.only (assignment_of d g.order s) h).1,
        λ h. set.all (assignment_of d g.order s) (subst (IsState d) (sym back) state, subst IsSuch (sym back) h),
      )

  -- it reads the levels of a state alone
  pub states_set : (IsSuch : StateData → Type 0) (id : NodeId) → IsStates d g.order g.diagrams.table IsSuch id →
      IsSet g id
  states_set IsSuch id set = record {
    known = set.known;
    reads = λ v w same.
        let state = coding_told.same v w same in
        same_from_decides (means g.diagrams.table id v) (means g.diagrams.table id w)
        (set.only v, set.all v) (
          λ h. subst (λ (s : StateData). IsState d s × IsSuch s) (sym state) (set.only w h),
          λ h. set.all w (subst (λ (s : StateData). IsState d s × IsSuch s) state h),
        );
  }
