-- Where the driver can stay in a set the environment cannot force the state out of it.
use Rattle.std.proofs.Common.{◌≡◌, true, false, Bool, sym, ◌∙◌}
use Rattle.tm_syntax.specs.Design.{DesignTree}
use Rattle.tm_sem.specs.declared.state.Move.{Move}
use Rattle.tm_sem.specs.State.{StateData}
use Rattle.tm_sem.specs.Forcing.{Leads, errs, lands, Forced, by_environment, by_driver, Keeps, Stays}

module _ (d : DesignTree) (set : StateData → Bool) (s : StateData) where
  -- a move that keeps to a set leads to no state outside
  kept : (move : Move) → Keeps d (λ t. set t ≡ true) s move → Leads d (λ t. set t ≡ false) s move → ⊥
  kept move keeps (errs choices step) = keeps.no_error choices step
  kept move keeps (lands choices t step out) =
      let wrong : true ≡ false = sym (keeps.ends_within choices t step) ∙ out in cc

  pub stays_unforced : Stays d (λ t. set t ≡ true) s → Forced d (λ t. set t ≡ false) s → ⊥
  stays_unforced stays (by_environment move is leads) = kept move (stays.calm move is) leads
  stays_unforced stays (by_driver turn all) =
      let answer = stays.driver turn in
      kept answer.0 answer.2 (all answer.0 answer.1)
