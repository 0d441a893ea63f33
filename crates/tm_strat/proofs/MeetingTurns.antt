-- A driver's move steps on at its turn alone.
use Rattle.std.proofs.Common.{◌≡◌}
use Rattle.tm_sem.proofs.Turns.{at_turn}
use Rattle.tm_sem.specs.declared.state.Outcome.TheVariants.{Next, NoOutcome}
use Rattle.tm_strat.specs.Meeting.{StepsAtTurn}
use Rattle.tm_syntax.specs.Design.{DesignTree}

pub steps_at_turn : (d : DesignTree) → StepsAtTurn d
steps_at_turn d s t move choices own step = at_turn d s choices (Next t) differs move own step
  where
    differs : Next t ≡ NoOutcome → ⊥
    differs e = cc
