-- Steps as diagrams, from the diagrams of their parts.
use Rattle.std.proofs.Common.{◌≡◌, ℕ, ◌+◌, ◌<◌, Bool, true, List, [], Option, None, Some, Vec, length, get_or, map, inl, inr, sym, ap, ◌∙◌, subst, arith}
use Rattle.std.specs.Prelude.{All, slice_get}
use Rattle.std.specs.Option.{option_and_then, option_map}
use Rattle.std.specs.declared.alloc.Global.{Global}
use Rattle.std.proofs.lemmas.Bool.{cases_lt}
use Rattle.std.proofs.lemmas.List.{get_or-map, length-map}
use Rattle.std.proofs.lemmas.Option.{slice_get-get_or, slice_get-map, slice_get_past, slice_get_within}
use Rattle.tm_base.specs.Arithmetic.{bit}
use Rattle.tm_game_steps.specs.Changes.{AreChanges}
use Rattle.tm_dd.specs.Reduced.{Extends}
use Rattle.tm_dd.specs.Table.{Table}
use Rattle.tm_dd.proofs.CallerLaws.{Extends-trans}
use Rattle.tm_flat.specs.declared.flat.FlatStep.{FlatStep}
use Rattle.tm_flat.specs.Flat.{FlatTerms, StepTerms, step_terms}
use Rattle.tm_game_bits.specs.declared.step.StepDiagrams.{StepDiagrams}
use Rattle.tm_game_bits.specs.Choices.{ListsChoices}
use Rattle.tm_game_bits.proofs.Extended.{Knows-Extends}
use Rattle.tm_game_steps.specs.declared.places.Place.{Place}
use Rattle.tm_game_steps.specs.Inner.Pushed.{IsTelling, MadeFrom, MadeOfTask}
use Rattle.tm_game_steps.specs.Places.{IsPlace}
use Rattle.tm_game_steps.specs.Setting.{IsGuarded, IsTruthIn, Setting, arguments_of, choices_of, has_value, values_at}
use Rattle.tm_game_steps.specs.Telling.{HasStep}
use Rattle.tm_term.specs.Value.{value_of}

-- a step whose parts are those of terms
pub step_is : (x : Setting) (s t u : Table) (test : List ℕ → Bool) (given : List ℕ) (terms : StepTerms)
    (step : StepDiagrams) → Extends s t → Extends t u → IsGuarded x s test terms.legal step.legal →
    IsTruthIn x t terms.error step.error → AreChanges x.terms x.levels u terms.next step.next.items →
    ListsChoices (choices_of x) step.choices.items (λ v. value_of x.terms (values_at x v)) terms →
    step.arguments.items ≡ given → IsTelling x u test given terms step
step_is x s t u test given terms step first second guarded error changes choices arguments =
    let both = Extends-trans s t u first second in
    record {
      known = record {
        legal = Knows-Extends s u both step.legal guarded.known;
        error = Knows-Extends t u second step.error error.known;
        next = changes.known;
      };
      tells = record {
        guarded = λ v h. guarded.only v (sym (both.same_meaning step.legal guarded.known v) ∙ h);
        legal = λ v h. guarded.inside v h ∙ ap bit (sym (both.same_meaning step.legal guarded.known v));
        error = λ v. error.value v ∙ ap bit (sym (second.same_meaning step.error error.known v));
        next = changes.numbers;
        choices = choices;
        arguments = arguments;
      };
    }

-- ---- rows of steps
-- the step of a row at a place
abbrev rows_at : List (Vec FlatStep Global) → ℕ → ℕ → Option StepTerms
rows_at rows p k =
    option_and_then (λ steps. slice_get steps k)
    (slice_get (map (λ (steps : Vec FlatStep Global). map step_terms steps.items) rows) p)

pub row_there : (rows : List (Vec FlatStep Global)) (p k : ℕ) (terms : StepTerms) → rows_at rows p k ≡ Some terms →
    p < length rows
row_there rows p k terms at =
    elim (cases_lt p (length rows)) as (λ _. p < length rows) [
      | inl inside ↦ inside
      | inr past ↦
          let long = length-map rows (λ (steps : Vec FlatStep Global). map step_terms steps.items) in
          let none : None ≡ Some terms =
          sym (ap (λ (o : Option (List StepTerms)). option_and_then (λ steps. slice_get steps k) o)
          (slice_get_past (map (λ (steps : Vec FlatStep Global). map step_terms steps.items) rows) p
          (omega (arith, long)))) ∙ at in
          absurd (cc)
    ]

module _ (rows : List (Vec FlatStep Global)) (p k : ℕ) (terms : StepTerms) (at : rows_at rows p k ≡ Some terms)
    (row : Vec FlatStep Global) (is : row ≡ get_or rows p row) where
  in_row : slice_get (map step_terms row.items) k ≡ Some terms
  in_row =
      sym (ap (λ (o : Option (List StepTerms)). option_and_then (λ steps. slice_get steps k) o)
      (slice_get-map (λ (steps : Vec FlatStep Global). map step_terms steps.items) rows p
      ∙ ap (option_map (λ (steps : Vec FlatStep Global). map step_terms steps.items))
      (slice_get-get_or rows p row (row_there rows p k terms at) ∙ ap Some (sym is))))
      ∙ at

  pub step_there : k < length row.items
  step_there =
      omega (arith, slice_get_within (map step_terms row.items) k terms in_row, length-map row.items step_terms)

  pub step_same : (step : FlatStep) → step ≡ get_or row.items k step → terms ≡ step_terms step
  step_same step here =
      let two : Some (step_terms step) ≡ Some terms =
      ap (λ (one : FlatStep). Some (step_terms one)) here
      ∙ sym (slice_get-map step_terms row.items k
      ∙ ap (option_map step_terms) (slice_get-get_or row.items k step step_there))
      ∙ in_row in
      cc

-- the step of a process from a place
pub from_place : (x : Setting) (f : FlatTerms) (s : Table) (place : Place) (terms : StepTerms) (step : StepDiagrams)
    (has : HasStep x f place.process place.location) → IsPlace x.terms f.magic x.first place → has.terms ≡ terms →
    IsTelling x s (has_value (x.first + place.process) place.location) [] terms step → MadeFrom x f s place step
from_place x f s place terms step has at same telling = record {
  known = telling.known;
  is = record {
    terms = terms;
    there = at.there;
    tells = has.there ∙ ap Some same;
    is = telling.tells;
  };
}

-- the step of a task
pub task_there : (x : Setting) (f : FlatTerms) (s : Table) (n : ℕ) (terms : StepTerms) (step : StepDiagrams) →
    slice_get f.tasks n ≡ Some terms → IsTelling x s (λ values. true) (arguments_of x) terms step →
    MadeOfTask x f s n step
task_there x f s n terms step at telling = record {
  known = telling.known;
  is = record { terms = terms; tells = at; is = telling.tells };
}

-- the terms of a task, as code reads them
pub task_terms : (P : StepTerms → Type 0) (tasks : List FlatStep) (n : ℕ) (step : FlatStep) → n < length tasks →
    step ≡ get_or tasks n step → All P (map step_terms tasks) → P (step_terms step)
task_terms P tasks n step below here all =
    let long = length-map tasks step_terms in
    subst P (get_or-map step_terms tasks n step (step_terms step) below ∙ ap step_terms (sym here))
    (all n (step_terms step) (omega arith))

-- where they stand
pub task_at : (tasks : List FlatStep) (n : ℕ) (step : FlatStep) → n < length tasks → step ≡ get_or tasks n step →
    slice_get (map step_terms tasks) n ≡ Some (step_terms step)
task_at tasks n step below here =
    slice_get-map step_terms tasks n
    ∙ ap (option_map step_terms) (slice_get-get_or tasks n step below ∙ ap Some (sym here))
