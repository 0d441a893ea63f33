-- What the environment can force in one step, and where the driver can stay (controllable predecessors, as in Piterman,
-- Pnueli and Sa'ar 2006, with this project's own turn rule).
use Rattle.std.specs.Prelude.{◌≡◌, true, false, All, Any}
use Rattle.tm_ddops.specs.Quantified.{AgreeElsewhere}
use Rattle.tm_game_bits.specs.Functions.{Assignment, Function, StepFunctions, GameFunctions, after}

-- w is v with some choices of the step
abbrev pub WithChoices : StepFunctions → Assignment → Assignment → Type 0
WithChoices step v w = AgreeElsewhere step.choices v w

-- w is v with some arguments of the step
abbrev pub WithArguments : StepFunctions → Assignment → Assignment → Type 0
WithArguments step v w = AgreeElsewhere step.arguments v w

-- some choices of a step err, or lead into a set
pub data Leads (step : StepFunctions) (into : Function) (v : Assignment) : Type 0 where
  errs : (w : Assignment) → WithChoices step v w → step.legal w ≡ true → step.error w ≡ true → Leads step into v
  lands : (w : Assignment) → WithChoices step v w → step.legal w ≡ true → step.error w ≡ false →
      into (after step.next w) ≡ true → Leads step into v

-- a step errs for no choices, and ends in the set
pub record Keeps (step : StepFunctions) (within : Function) (v : Assignment) : Type 0 where
  pub no_error : (w : Assignment) → WithChoices step v w → step.legal w ≡ true → step.error w ≡ false
  pub ends_within : (w : Assignment) → WithChoices step v w → step.legal w ≡ true → step.error w ≡ false →
      within (after step.next w) ≡ true

-- a step of the driver is allowed with its arguments: the driver can be picked, and some choices give an outcome
pub record IsAllowed (turn : Function) (step : StepFunctions) (v : Assignment) : Type 0 where
  pub at_turn : turn v ≡ true
  pub some : (w : Assignment) × WithChoices step v w × (step.legal w ≡ true)

-- from a valid state no stutter or step of the environment errs or leaves the set
pub record IsCalm (g : GameFunctions) (within : Function) (v : Assignment) : Type 0 where
  pub valid : g.valid v ≡ true
  pub stutter : within (after g.stutter v) ≡ true
  pub environment : All (λ (step : StepFunctions). Keeps step within v) g.environment

-- a step of the driver is good with its arguments: it is allowed, and for no choices errs or leaves the set
pub record IsGood (turn within : Function) (step : StepFunctions) (v : Assignment) : Type 0 where
  pub allowed : IsAllowed turn step v
  pub keeps : Keeps step within v

-- it is good for some arguments
abbrev pub IsGoodForSome : Function → Function → Assignment → StepFunctions → Type 0
IsGoodForSome turn within v step = (w : Assignment) × WithArguments step v w × IsGood turn within step w

-- it is good with its arguments at a valid state
pub record IsLegalMove (g : GameFunctions) (within : Function) (step : StepFunctions) (v : Assignment) : Type 0 where
  pub valid : g.valid v ≡ true
  pub good : IsGood g.turn within step v

-- the driver stays in the set: no other actor errs or leaves it, and at its turn some step of its own is good for some
-- arguments
pub record Stays (g : GameFunctions) (within : Function) (v : Assignment) : Type 0 where
  pub calm : IsCalm g within v
  pub driver : g.turn v ≡ true → Any (IsGoodForSome g.turn within v) g.driver

-- from a valid state the environment forces an error or a state of the set: by a stutter, by a step of its own, or
-- where the driver can be picked by each step that the driver is allowed
pub data Forced (g : GameFunctions) (into : Function) (v : Assignment) : Type 0 where
  by_stutter : g.valid v ≡ true → into (after g.stutter v) ≡ true → Forced g into v
  by_environment : g.valid v ≡ true → Any (λ (step : StepFunctions). Leads step into v) g.environment →
      Forced g into v
  by_driver : g.valid v ≡ true → g.turn v ≡ true →
      All (λ (step : StepFunctions).
      (w : Assignment) → WithArguments step v w → IsAllowed g.turn step w → Leads step into w) g.driver →
      Forced g into v
