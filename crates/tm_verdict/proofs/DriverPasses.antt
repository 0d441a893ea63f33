-- A part of a driver's certificate that fails nowhere passes.
use Rattle.std.proofs.Common.{◌≡◌, ℕ, ◌<◌, ◌≤◌, ◌⊎◌, inl, inr, Bool, true, false, length, refl, arith}
use Rattle.tm_syntax.specs.Design.{DesignTree}
use Rattle.tm_sem.specs.declared.state.Move.{Move}
use Rattle.tm_sem.specs.declared.state.Outcome.TheVariants.{Next}
use Rattle.tm_sem.specs.State.{StateData}
use Rattle.tm_sem.specs.Step.{IsAllowed, IsState, is_driver_move}
use Rattle.tm_sem.specs.Forcing.{IsCalm, Keeps, Leads}
use Rattle.tm_sem.specs.Certificates.{DriverSets, IsIn, rank}
use Rattle.tm_verdict.proofs.Deciding.{allowed_or_not, calm_or_leads, keeps_or_leads}
use Rattle.tm_verdict.specs.Driver.{DriverPart, FailsAt, Passes, adds_state, begins_within, falls_when_fair, is_answered, is_calm, is_ranked, lies_within, never_rises}
use Rattle.tm_verdict.specs.Found.{NamesStates}
use Rattle.tm_verdict.specs.Regular.{IsRegular}

-- a test that is never false is true
pub holds : (b : Bool) → (b ≡ false → ⊥) → b ≡ true
holds true never = refl
holds false never = absurd (never refl)

at_most_or_more : (a b : ℕ) → (a ≤ b) ⊎ (b < a)
at_most_or_more a b = grind arith

module _ (d : DesignTree) (regular : IsRegular d) (answers : StateData → ℕ → Move → Type 0) (c : DriverSets) where
  -- a move from a valid state that stays in the region ends at a valid state of it
  stays_valid : (s : StateData) (move : Move) → IsState d s → Keeps d (λ t. c.region t ≡ true) s move →
      Keeps d (IsIn d c.region) s move
  stays_valid s move valid keeps = record {
    no_error = keeps.no_error;
    ends_within = λ choices t step.
        (regular.steady s move choices (Next t) valid step, keeps.ends_within choices t step);
  }

  -- a part fails at no state
  abbrev FailsNowhere : DriverPart → Type 0
  FailsNowhere part = (s : StateData) → ¬ FailsAt d answers c part s

  within : (goal k : ℕ) → FailsNowhere (lies_within goal k) → Passes d answers c (lies_within goal k)
  within goal k nowhere ranked r are is s here =
      (here.0, holds (c.region s) (λ out. nowhere s (ranked, r, are, is, here, out)))

  begins : FailsNowhere begins_within → Passes d answers c begins_within
  begins nowhere s initial = (regular.initial s initial, holds (c.region s) (λ out. nowhere s (initial, out)))

  has_rank : (goal : ℕ) → FailsNowhere (is_ranked goal) → Passes d answers c (is_ranked goal)
  has_rank goal nowhere s ranked here are = by (at_most_or_more (rank ranked s) (length ranked))
    where
      by : (rank ranked s ≤ length ranked) ⊎ (length ranked < rank ranked s) → rank ranked s ≤ length ranked
      by (inl few) = few
      by (inr many) = absurd (nowhere s (ranked, here, are, many))

  stays : FailsNowhere is_calm → Passes d answers c is_calm
  stays nowhere s here = by (calm_or_leads d regular.room s c.region)
    where
      by : IsCalm d (λ t. c.region t ≡ true) s
          ⊎ ((move : Move) × (is_driver_move move ≡ false) × Leads d (λ t. c.region t ≡ false) s move) →
          IsCalm d (IsIn d c.region) s
      by (inl rests) = λ move others. stays_valid s move here.0 (rests move others)
      by (inr (move, others, leads)) = absurd (nowhere s (move, here, others, leads))

  answers_well : (goal : ℕ) → FailsNowhere (is_answered goal) → Passes d answers c (is_answered goal)
  answers_well goal nowhere s move here turn given =
      by (allowed_or_not d regular.room s move) (keeps_or_leads d regular.room s move c.region)
    where
      by : IsAllowed d s move ⊎ (¬ IsAllowed d s move) →
          Keeps d (λ t. c.region t ≡ true) s move ⊎ Leads d (λ t. c.region t ≡ false) s move →
          IsAllowed d s move × Keeps d (IsIn d c.region) s move
      by (inr forbidden) leaves = absurd (nowhere s (move, here, turn, given, inl forbidden))
      by (inl allowed) (inr leads) = absurd (nowhere s (move, here, turn, given, inr leads))
      by (inl allowed) (inl keeps) = (allowed, stays_valid s move here.0 keeps)

  rises_never : (goal : ℕ) → FailsNowhere (never_rises goal) → Passes d answers c (never_rises goal)
  rises_never goal nowhere s t ranked move choices here are unmet made step =
      by (at_most_or_more (rank ranked t) (rank ranked s))
    where
      by : (rank ranked t ≤ rank ranked s) ⊎ (rank ranked s < rank ranked t) → rank ranked t ≤ rank ranked s
      by (inl most) = most
      by (inr more) = absurd (nowhere s (t, ranked, move, choices, here, are, unmet, made, step, more))

  falls : (goal : ℕ) → FailsNowhere (falls_when_fair goal) → Passes d answers c (falls_when_fair goal)
  falls goal nowhere s t ranked move choices here are unmet fair made step =
      by (at_most_or_more (rank ranked s) (rank ranked t))
    where
      by : (rank ranked s ≤ rank ranked t) ⊎ (rank ranked t < rank ranked s) → rank ranked t < rank ranked s
      by (inl no_less) = absurd (nowhere s (t, ranked, move, choices, here, are, unmet, fair, made, step, no_less))
      by (inr less) = less

  pub passes : (part : DriverPart) → NamesStates part → ((s : StateData) → ¬ FailsAt d answers c part s) →
      Passes d answers c part
  passes (lies_within goal k) names nowhere = within goal k nowhere
  passes (adds_state goal k) names nowhere = absurd names
  passes begins_within names nowhere = begins nowhere
  passes (is_ranked goal) names nowhere = has_rank goal nowhere
  passes is_calm names nowhere = stays nowhere
  passes (is_answered goal) names nowhere = answers_well goal nowhere
  passes (never_rises goal) names nowhere = rises_never goal nowhere
  passes (falls_when_fair goal) names nowhere = falls goal nowhere
