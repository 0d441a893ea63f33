-- A step whose choices are read as bits.
use Rattle.std.specs.Prelude.{◌≡◌, ℕ, Bool, Some, []}
use Rattle.std.specs.Option.{option_map_or}
use Rattle.tm_syntax.specs.Design.{DesignTree}
use Rattle.tm_syntax.specs.Design.Cells.{Called}
use Rattle.tm_syntax.specs.Design.Locations.{rest}
use Rattle.tm_syntax.specs.Design.Work.{body_items}
use Rattle.tm_sem.specs.declared.state.Move.{Move}
use Rattle.tm_sem.specs.declared.state.Outcome.{Outcome}
use Rattle.tm_sem.specs.declared.state.Outcome.TheVariants.{NoOutcome}
use Rattle.tm_sem.specs.State.{StateData}
use Rattle.tm_sem.specs.Step.{work, outcome_of, task_of}
use Rattle.tm_flat.specs.BitRun.{items_ending}
use Rattle.tm_flat.specs.Fitting.{ItemsFit, ArgumentsFit}
use Rattle.tm_flat.specs.Inputs.{room}

-- what a move leads to where its choices are read from these bits; where the turn rule does not permit it, to none
abbrev pub outcome_at : DesignTree → StateData → Move → (ℕ → Bool) → Outcome
outcome_at d s move bits =
    option_map_or (λ w. outcome_of d s w (items_ending d bits w.items 0 w.memory)) (work d s move) NoOutcome

-- what is done from one location to the next and in each controllable task fits into the bits that there are for
-- choices, and the arguments of each controllable task into those that there are for arguments
pub record HasRoom (d : DesignTree) : Type 0 where
  pub processes : (p k : ℕ) → ItemsFit room d (rest d p k) 0
  pub tasks : (n : ℕ) (callee : Called) → task_of d n ≡ Some callee →
      ItemsFit room d (body_items callee.scope [] callee.body) 0
  pub arguments : (n : ℕ) (callee : Called) → task_of d n ≡ Some callee → ArgumentsFit room d callee.params 0
