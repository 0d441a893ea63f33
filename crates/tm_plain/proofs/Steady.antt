-- What a move leads to from a valid state.
use Rattle.std.specs.Prelude.{ℕ, Result, Ok, Err, IfOk, List}
use Rattle.tm_syntax.specs.declared.design.Design.{Design}
use Rattle.tm_syntax.specs.Design.View.{design_tree}
use Rattle.tm_sem.specs.State.{StateData}
use Rattle.tm_sem.specs.Step.{IsState, LeadsToState, Step}
use Rattle.tm_sem.specs.declared.state.Move.{Move}
use Rattle.tm_sem.specs.declared.state.Outcome.{Outcome}
use Rattle.tm_states.proofs.Stepping.{steps_valid}
use Rattle.tm_plain.specs.Machine.{IsRunnable}

pub moved_valid : {E : Type 0} (d : Design) → IsRunnable d → (s : StateData) (move : Move) (choices : List ℕ)
    (r : Result Outcome E) → IfOk r (Step (design_tree d) s move choices) → IsState (design_tree d) s →
    IfOk r (LeadsToState (design_tree d))
moved_valid d runs s move choices (Ok o) step valid =
    steps_valid (design_tree d) runs.sound runs.read s move choices o valid step
moved_valid d runs s move choices (Err e) step valid = tt
