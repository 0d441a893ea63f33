-- Terms that tell what a step leads to whose choices are read as bits tell all that the step leads to.
use Rattle.std.proofs.Common.{◌≡◌, ℕ, zero, suc, ◌+◌, ◌<◌, ◌≤◌, Option, None, Some, List, [], ◌∷◌, length, refl, sym, ap, ◌∙◌, subst, arith, slice_get, slice_index}
use Rattle.std.specs.Option.{option_and_then}
use Rattle.std.specs.List.{AllZip, range_with_len}
use Rattle.std.proofs.lemmas.Option.{slice_get_within, get_or_from_slice_get}
use Rattle.tm_term.specs.Table.{Table}
use Rattle.tm_syntax.specs.Design.{DesignTree}
use Rattle.tm_syntax.specs.declared.design.Item.{Item}
use Rattle.tm_syntax.specs.Design.Cells.{Called, task_called}
use Rattle.tm_syntax.specs.Design.Scope.{site}
use Rattle.tm_syntax.specs.Design.Locations.{end_number}
use Rattle.tm_sem.specs.declared.state.Move.{Move}
use Rattle.tm_sem.specs.declared.state.Move.TheVariants.{Call}
use Rattle.tm_sem.specs.State.{StateData}
use Rattle.tm_sem.specs.Step.{IsState, Step, task_of}
use Rattle.tm_flat.specs.BitStep.{outcome_at, HasRoom}
use Rattle.tm_flat.specs.Flat.{StepTerms, FlatTerms}
use Rattle.tm_flat.specs.Inputs.{AreBits, bits_in, input_values, arguments_in}
use Rattle.tm_flat.specs.IsFlat.{IsFlat, location_numbers, step_from}
use Rattle.tm_flat.specs.Steps.{told_outcome, Tells, IsProcessStep, IsTaskStep, move_from}
use Rattle.tm_flat.proofs.BitSteps.{steps_of_bits, bits_of_steps}

pub tells_so : (t : Table) (d : DesignTree) (step : StepTerms) (s : StateData) (move : Move) (arguments : List ℕ) →
    HasRoom d →
    ((bits : List ℕ) → AreBits bits →
    told_outcome t d (input_values s bits arguments) step ≡ outcome_at d s move (bits_in bits)) →
    Tells t d step s move arguments
tells_so t d step s move arguments fits is = record {
  outcomes = λ bits are there.
      let lead : (choices : List ℕ) × Step d s move choices (outcome_at d s move (bits_in bits)) =
      steps_of_bits d s move (bits_in bits) (λ same. there (is bits are ∙ same)) in
      (lead.0, subst (Step d s move lead.0) (sym (is bits are)) lead.1);
  all = λ choices o there led.
      let found : (bits : List ℕ) × AreBits bits × (outcome_at d s move (bits_in bits) ≡ o) =
      bits_of_steps d fits s move choices o there led in
      (found.0, found.1, is found.0 found.1 ∙ found.2);
}

-- what stands at a place of a list that goes along with numbers
along : {X : Type 0} → (R : ℕ → X → Type 0) (a n : ℕ) (xs : List X) → AllZip R (range_with_len a n) xs → (i : ℕ) →
    i < n → (x : X) × (slice_get xs i ≡ Some x) × R (a + i) x
along R a zero xs h i below = absurd (omega arith)
along R a (suc n) [] h i below = absurd h
along R a (suc n) (x ∷ xs) h zero below =
    let here : a ≡ a + 0 = omega arith in (x, refl, subst (λ k. R k x) here h.0)
along {X} R a (suc n) (x ∷ xs) h (suc i) below =
    let rest : (y : X) × (slice_get xs i ≡ Some y) × R (a + 1 + i) y = along R (a + 1) n xs h.1 i (omega arith) in
    let here : a + 1 + i ≡ a + suc i = omega arith in
    (rest.0, rest.1, subst (λ k. R k rest.0) here rest.2)

module _ (t : Table) (d : DesignTree) (f : FlatTerms) (flat : IsFlat t d f) where
  -- a process stands at one of its locations
  stands : (s : StateData) (p : ℕ) → IsState d s → p < length d.processes →
      slice_index s.places p < end_number d p + 1
  stands s p valid inside =
      let there : (k : ℕ) × (slice_get s.places p ≡ Some k) × (k ≤ end_number d (0 + p)) =
      along (λ q k. k ≤ end_number d q) 0 (length d.processes) s.places valid.places p inside in
      let same : slice_index s.places p ≡ there.0 = get_or_from_slice_get s.places p there.0 0 there.1 in
      let number : 0 + p ≡ p = omega arith in
      let below : there.0 ≤ end_number d p = subst (λ q. there.0 ≤ end_number d q) number there.2 in
      omega arith

  pub process_steps_tell : (s : StateData) (p : ℕ) (arguments : List ℕ) → IsState d s → p < length d.processes →
      AreBits arguments →
      (step : StepTerms) × (step_from f p (slice_index s.places p) ≡ Some step)
      × Tells t d step s (move_from d p (slice_index s.places p)) arguments
  process_steps_tell s p arguments valid inside are =
      let k = slice_index s.places p in
      let steps : (l : List StepTerms) × (slice_get f.processes p ≡ Some l)
      × AllZip (IsProcessStep t d (0 + p)) (location_numbers d (0 + p)) l =
      along (λ q l. AllZip (IsProcessStep t d q) (location_numbers d q) l) 0 (length d.processes) f.processes
      flat.processes p inside in
      let number : 0 + p ≡ p = omega arith in
      let all : AllZip (IsProcessStep t d p) (location_numbers d p) steps.0 =
      subst (λ q. AllZip (IsProcessStep t d q) (location_numbers d q) steps.0) number steps.2 in
      let step : (x : StepTerms) × (slice_get steps.0 k ≡ Some x) × IsProcessStep t d p (0 + k) x =
      along (IsProcessStep t d p) 0 (end_number d p + 1) steps.0 all k (stands s p valid inside) in
      let at : 0 + k ≡ k = omega arith in
      let is : IsProcessStep t d p k step.0 = subst (λ j. IsProcessStep t d p j step.0) at step.2 in
      (step.0, ap (λ o. option_and_then (λ l. slice_get l k) o) steps.1 ∙ step.1, is.tells s arguments valid refl are)

  -- a task of a design has a number below their count
  is_number : (n : ℕ) (callee : Called) → task_of d n ≡ Some callee → n < length d.tasks
  is_number n callee known = of (slice_get d.tasks n) refl known
    where
      of : (o : Option Item) → slice_get d.tasks n ≡ o →
          option_and_then (λ item. option_and_then (λ at. option_and_then (task_called d at) item.index)
          (site d item.instance)) o ≡ Some callee → n < length d.tasks
      of None is there = absurd (cc)
      of (Some item) is there = slice_get_within d.tasks n item is

  pub task_steps_tell : (s : StateData) (n : ℕ) (callee : Called) (arguments : List ℕ) → IsState d s →
      task_of d n ≡ Some callee → AreBits arguments →
      (step : StepTerms) × (slice_get f.tasks n ≡ Some step)
      × Tells t d step s (Call n (arguments_in d callee.params arguments)) arguments
  task_steps_tell s n callee arguments valid known are =
      let step : (x : StepTerms) × (slice_get f.tasks n ≡ Some x) × IsTaskStep t d (0 + n) x =
      along (IsTaskStep t d) 0 (length d.tasks) f.tasks flat.tasks n (is_number n callee known) in
      let at : 0 + n ≡ n = omega arith in
      let is : IsTaskStep t d n step.0 = subst (λ j. IsTaskStep t d j step.0) at step.2 in
      (step.0, step.1, is.tells s callee arguments valid known are)
