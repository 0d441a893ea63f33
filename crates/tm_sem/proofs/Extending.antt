-- Every play can be extended: time may always pass.
use Rattle.std.proofs.Common.{List, [], ◌∷◌, ◌++◌, refl}
use Rattle.tm_syntax.specs.Design.{DesignTree}
use Rattle.tm_sem.specs.declared.state.Move.TheVariants.{Stutter}
use Rattle.tm_sem.specs.declared.state.Outcome.TheVariants.{Next}
use Rattle.tm_sem.specs.State.{StateData}
use Rattle.tm_sem.specs.Value.{plain_memory}
use Rattle.tm_sem.specs.Run.{finished, none_left}
use Rattle.tm_sem.specs.Step.{Step}
use Rattle.tm_sem.specs.Play.{Entry, StepsAlong, last_state, stutter, IsPlay}

pub time_passes : (d : DesignTree) (s : StateData) → Step d s Stutter [] (Next (record s { last = 0 }))
time_passes d s = record { end = finished (plain_memory s.values); run = none_left refl; outcome = refl }

steps_on : (d : DesignTree) (s : StateData) (entries : List Entry) → StepsAlong d s entries →
    StepsAlong d s (entries ++ stutter (last_state s entries) ∷ [])
steps_on d s [] steps = (time_passes d s, tt)
steps_on d s (e ∷ es) steps = (steps.0, steps_on d e.state es steps.1)

pub extended : (d : DesignTree) (first : StateData) (entries : List Entry) → IsPlay d first entries →
    IsPlay d first (entries ++ stutter (last_state first entries) ∷ [])
extended d first entries play = record { initial = play.initial; steps = steps_on d first entries play.steps }
