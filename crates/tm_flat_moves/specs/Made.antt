-- A step that was made.
use Rattle.tm_term.specs.Table.{Table, IsSound}
use Rattle.tm_term.specs.Value.{Extends}
use Rattle.tm_flat.specs.declared.flat.FlatStep.{FlatStep}
use Rattle.tm_flat.specs.Flat.{StepTerms, step_terms}

-- a step was made over terms that stay what they were
pub record MakesStep (t n : Table) (IsSuch : StepTerms → Type 0) (step : FlatStep) : Type 0 where
  pub grown : Extends t n
  pub sound : IsSound n
  pub is : IsSuch (step_terms step)
