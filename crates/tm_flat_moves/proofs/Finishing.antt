-- The step of runs that have ended.
use Rattle.std.proofs.Common.{◌≡◌, ◌≢◌, ℕ, zero, suc, ◌+◌, ◌<◌, ◌==◌, ◌||◌, Bool, true, false, Option, None, Some, List, length, map, take, drop, slice_get, refl, sym, ap, ◌∙◌, subst, arith, true≢false}
use Rattle.std.specs.Prelude.{IfSome, nat_eq, not, if◌then◌else◌}
use Rattle.std.specs.List.{AllZip}
use Rattle.std.specs.Option.{option_map_or}
use Rattle.std.proofs.lemmas.Bool.Decides.{nat_tests}
use Rattle.std.proofs.lemmas.Option.{slice_get_within}
use Rattle.tm_base.specs.Arithmetic.{is_nonzero}
use Rattle.tm_syntax.specs.declared.design.Var.{Var}
use Rattle.tm_syntax.specs.Tree.{SpecTree}
use Rattle.tm_syntax.specs.Tree.View.{spec_tree}
use Rattle.tm_syntax.specs.Design.{DesignTree}
use Rattle.tm_syntax.specs.Design.Locations.{end_number}
use Rattle.tm_syntax.specs.Design.Sizes.{bits_of_number, type_bits}
use Rattle.tm_scope.specs.Cells.{CellTables}
use Rattle.tm_term.specs.declared.term.TermId.{TermId}
use Rattle.tm_term.specs.Table.{Table, IsSound}
use Rattle.tm_term.specs.Value.{AreInputs, value_of, Extends}
use Rattle.tm_term.proofs.Valued.{Extends-trans}
use Rattle.tm_sem.specs.declared.state.Outcome.{Outcome}
use Rattle.tm_sem.specs.declared.state.Outcome.TheVariants.{Next, Error, NoOutcome}
use Rattle.tm_sem.specs.State.{StateData}
use Rattle.tm_sem.specs.StateBits.{state_widths}
use Rattle.tm_sem.specs.Value.{Memory}
use Rattle.tm_flat.specs.declared.flat.FlatStep.{FlatStep}
use Rattle.tm_flat.specs.Flat.{StepTerms, step_terms}
use Rattle.tm_flat.specs.Inputs.{first_choice, input_widths, state_from}
use Rattle.tm_flat.specs.Steps.{AreTerms, IsInput, IsTerm, LeavesInputs, told_outcome}
use Rattle.tm_flat_exprs.specs.Kept.{Keeps}
use Rattle.tm_flat_exprs.specs.Made.{IsTruth, truth_at, value_at}
use Rattle.tm_flat_exprs.proofs.Along.{kept_along}
use Rattle.tm_flat_exprs.proofs.Later.{Extends-refl, term_along}
use Rattle.tm_flat_stmts.specs.Flows.{EndTerms, FlowKeeps, IsFlow, StopsHave, is_on, stop_of}
use Rattle.tm_flat_moves.specs.declared.arrivals.Arrived.{Arrived}
use Rattle.tm_flat_moves.specs.Arrived.{Arrives, StandsAlone, StandsAt, TellsArrival, flow_of}
use Rattle.tm_flat_moves.specs.Ended.{IsEnding, IsMoverOf, MakesArrived, MakesNowhere, MakesSomewhere}
use Rattle.tm_flat_moves.specs.Made.{MakesStep}
use Rattle.tm_flat_moves.specs.Next.{Finishes, arrival_outcome, moved}
use Rattle.tm_flat_moves.proofs.InputTerms.{input_along}
use Rattle.tm_flat_moves.proofs.InputWidths.{in_state, input_of, widths_long}
use Rattle.tm_flat_moves.proofs.NextNumbers.{next_place, next_terms, next_value, told_state, zip_points}

-- what the truths of a step say
abbrev verdict : Bool → Bool → StateData → Outcome
verdict illegal fine s = if illegal then NoOutcome else (if fine then Next s else Error)

not_not : (b c : Bool) → not b ≡ c → b ≡ not c
not_not true c is = ap not is
not_not false c is = ap not is

itself : (k : ℕ) → nat_eq k k ≡ true
itself k = grind (arith, nat_tests)

apart : (j k : ℕ) → j ≢ k → nat_eq j k ≡ false
apart j k other = by (nat_eq j k) refl
  where
    by : (b : Bool) → nat_eq j k ≡ b → nat_eq j k ≡ false
    by false is = is
    by true is = absurd (other (grind (arith, nat_tests)))

module _ (x : CellTables) (u : Table) (v : List ℕ) (ends : EndTerms) where
  -- where a run has arrived it stands at that location alone
  alone : (k : ℕ) (m : Memory) (fails : Bool) → TellsArrival x u v (Some (k, m)) fails ends → StandsAlone u v ends k
  alone k m fails told = record {
    here = told.stops k ∙ itself k;
    others = λ j other. told.stops j ∙ apart j k other;
  }

-- ---- runs that arrive nowhere
module _ (t n : Table) (d : DesignTree) (failed : Option TermId) (step : FlatStep)
    (made : MakesNowhere t n (first_choice d) failed step) (inputs : t.inputs ≡ input_widths d) where
  all_grown : Extends t n
  all_grown = Extends-trans t made.mid n made.error.grown made.next.grown

  pub nowhere_inputs : n.inputs ≡ input_widths d
  nowhere_inputs = all_grown.inputs ∙ inputs

  error_term : IsTerm n 1 step.error
  error_term = term_along made.mid n 1 step.error made.next.grown made.error.term

  is_input : (i : ℕ) (id : TermId) → slice_get step.next.items i ≡ Some id → IsInput n i id
  is_input i id here = let at : 0 + i ≡ i = omega arith in subst (λ k. IsInput n k id) at (made.next.each i id here)

  pub nowhere_terms : AreTerms n d (step_terms step)
  nowhere_terms = record {
    legal = subst (IsTerm n 1) (sym made.legal) error_term;
    error = error_term;
    next = zip_points (IsTerm n) (state_widths d) step.next.items (widths_long d ∙ sym made.next.as_many)
        (λ k w id at here.
        input_of d n k w id nowhere_inputs made.next.sound (is_input k id here) (in_state d k w at));
  }

  pub nowhere_leaves : (writes : ℕ → Bool) (mover : Option ℕ) → LeavesInputs n d writes mover (step_terms step)
  nowhere_leaves writes mover = record {
    variables = λ v id below none here. is_input v id here;
    places = λ p id below stays here. is_input (length d.vars + p) id here;
  }

  -- they have an outcome where they fail, which is an error
  pub nowhere_told : (v : List ℕ) → AreInputs n v → (fails : Bool) → truth_at n v failed ≡ fails →
      told_outcome n d v (step_terms step) ≡ (if fails then Error else NoOutcome)
  nowhere_told v are fails is =
      let fine : (value_of n v step.error == 0) ≡ not fails =
      not_not (value_of n v step.error == 0) fails
      (ap is_nonzero (made.error.value n made.next.grown v are) ∙ is) in
      (λ i. verdict (value_of n v (made.legal i) == 0) (value_of n v step.error == 0)
      (state_from d (map (value_of n v) step.next.items)))
      ∙ (λ i. verdict (fine i) (fine i) (state_from d (map (value_of n v) step.next.items)))
      ∙ so fails
    where
      so : (b : Bool) → verdict (not b) (not b) (state_from d (map (value_of n v) step.next.items))
          ≡ (if b then Error else NoOutcome)
      so true = refl
      so false = refl

pub finishes_nowhere : (x : CellTables) (t m n : Table) (d : DesignTree) (ends : EndTerms) (width : ℕ)
    (mover : Option ℕ) (last : ℕ) (step : FlatStep) → IsEnding x t d ends →
    Arrives x t m width ends (length ends.stops) None → MakesNowhere m n (first_choice d) ends.failed step →
    MakesStep t n (Finishes x t n d ends mover last) step
finishes_nowhere x t m n d ends width mover last step ending arrives made =
    let later : m.inputs ≡ input_widths d = arrives.grown.inputs ∙ ending.inputs in
    let grown : Extends m n = Extends-trans m made.mid n made.error.grown made.next.grown in
    record {
      grown = Extends-trans t m n arrives.grown grown;
      sound = made.next.sound;
      is = record {
        terms = nowhere_terms m n d ends.failed step made later;
        tells = λ v are to fails told. by v are to fails told grown later;
        leaves = λ writes has. nowhere_leaves m n d ends.failed step made later writes mover;
      };
    }
  where
    by : (v : List ℕ) → AreInputs n v → (to : Option (ℕ × Memory)) (fails : Bool) → TellsArrival x n v to fails ends →
        Extends m n → m.inputs ≡ input_widths d →
        told_outcome n d v (step_terms step) ≡ arrival_outcome d v mover last to fails
    by v are (Some a) fails told grown later =
        let stands = arrives.on n grown v are a.0 (told.within a.0 a.1 refl) (alone x n v ends a.0 a.1 fails told) a.1
        (told.memory a.0 a.1 refl) in
        absurd (true≢false (sym stands.on))
    by v are None fails told grown later = nowhere_told m n d ends.failed step made later v are fails told.failure

-- ---- runs that have arrived
module _ (x : CellTables) (t m n : Table) (d : DesignTree) (ends : EndTerms) (width : ℕ) (mover : Option ℕ)
    (last : ℕ) (a : Arrived) (step : FlatStep) (ending : IsEnding x t d ends) (of : IsMoverOf d width mover)
    (arrives : Arrives x t m width ends (length ends.stops) (Some a))
    (made : MakesSomewhere m n d ends.failed mover last a step) where
  later : n.inputs ≡ input_widths d
  later = made.next.grown.inputs ∙ made.told.grown.inputs ∙ arrives.grown.inputs ∙ ending.inputs

  more : Extends m n
  more = Extends-trans m made.mid n made.told.grown made.next.grown

  as_many : length a.flow.memory.values ≡ length d.vars
  as_many = arrives.flow.memory.count ∙ sym (ap length ending.cells.vars)

  kept : (i : ℕ) (id : TermId) (v : Var) → slice_get a.flow.memory.values i ≡ Some id → slice_get d.vars i ≡ Some v →
      IsTerm n (type_bits d.spec v.ty) id
  kept i id v here there =
      subst (λ (spec : SpecTree). IsTerm n (type_bits spec v.ty) id) (sym ending.cells.text)
      (term_along m n (type_bits (spec_tree x.spec) v.ty) id more
      (arrives.flow.memory.kept.values i id v here (ap (λ l. slice_get l i) (sym ending.cells.vars) ∙ there)))

  place_is : (p : ℕ) → mover ≡ Some p → IsTerm n (bits_of_number (end_number d p)) a.place
  place_is p is =
      let numbered = subst (IsMoverOf d width) is of in
      subst (λ w. IsTerm n w a.place) numbered.1 (term_along m n width a.place more arrives.place)

  terms : AreTerms n d (step_terms step)
  terms = record {
    legal = term_along made.mid n 1 step.legal made.next.grown made.told.legal;
    error = term_along made.mid n 1 step.error made.next.grown made.told.error;
    next = next_terms made.mid n d a.flow.memory.values mover a.place last step.next.items made.next later as_many kept
        place_is;
  }

  module _ (v : List ℕ) (are : AreInputs n v) where
    abbrev on : Bool
    on = is_on n v (Some a.flow)

    abbrev told_places : List ℕ
    told_places = take (length d.processes) (drop (length d.vars) v)

    abbrev arrived : Memory → ℕ → StateData
    arrived memory k = record { values = memory.values; places = moved told_places mover k; last = last }

    abbrev fails_here : Bool
    fails_here = truth_at n v ends.failed

    -- the outcome, by where runs stand
    told_so : told_outcome n d v (step_terms step) ≡ verdict (not (on || fails_here)) (not fails_here)
        (state_from d (map (value_of n v) step.next.items))
    told_so = λ i.
        verdict (made.told.is_legal n made.next.grown v are i) (made.told.is_error n made.next.grown v are i)
        (state_from d (map (value_of n v) step.next.items))

    tells : (to : Option (ℕ × Memory)) (fails : Bool) → TellsArrival x n v to fails ends →
        told_outcome n d v (step_terms step) ≡ arrival_outcome d v mover last to fails
    tells None fails told =
        let off : on ≡ false =
        arrives.off n more v are (λ k below. told.stops k) in
        told_so
        ∙ (λ i. verdict (not (off i || told.failure i)) (not (told.failure i))
        (state_from d (map (value_of n v) step.next.items)))
        ∙ so fails
      where
        so : (b : Bool) → verdict (not (false || b)) (not b) (state_from d (map (value_of n v) step.next.items))
            ≡ arrival_outcome d v mover last None b
        so true = refl
        so false = refl
    tells (Some (k, memory)) fails told =
        let stands = arrives.on n more v are k (told.within k memory refl) (alone x n v ends k memory fails told) memory
        (told.memory k memory refl) in
        let state : state_from d (map (value_of n v) step.next.items) ≡ arrived memory k =
        told_state made.mid n d a.flow.memory.values mover a.place last step.next.items made.next later as_many v are
        ∙ (λ i. record {
          values = sym stands.keeps.values i;
          places = moved told_places mover (stands.place i);
          last = last;
        }) in
        told_so
        ∙ (λ i. verdict (not (stands.on i || told.failure i)) (not (told.failure i)) (state i))
        ∙ so fails
      where
        so : (b : Bool) → verdict (not (true || b)) (not b) (arrived memory k)
            ≡ arrival_outcome d v mover last (Some (k, memory)) b
        so true = refl
        so false = refl

  leaves : (writes : ℕ → Bool) →
      ((i : ℕ) → i < length d.vars → writes i ≡ false → (id : TermId) × IsInput t i id × StopsHave i id ends) →
      LeavesInputs n d writes mover (step_terms step)
  leaves writes has = record {
    variables = λ i id below none here.
        let had = has i below none in
        subst (IsInput n i)
        (next_value made.mid n d a.flow.memory.values mover a.place last step.next.items made.next later as_many i id
        had.0 (arrives.same i had.0 had.2) here)
        (input_along t n i had.0 (Extends-trans t m n arrives.grown more) had.1);
    places = λ p id below stays here.
        next_place made.mid n d a.flow.memory.values mover a.place last step.next.items made.next later as_many p id
        below stays here;
  }

  pub finishes_somewhere : MakesStep t n (Finishes x t n d ends mover last) step
  finishes_somewhere = record {
    grown = Extends-trans t m n arrives.grown more;
    sound = made.next.sound;
    is = record { terms = terms; tells = λ v are. tells v are; leaves = leaves };
  }

pub finishes : (x : CellTables) (t m n : Table) (d : DesignTree) (ends : EndTerms) (width : ℕ) (mover : Option ℕ)
    (last : ℕ) (found : Option Arrived) (step : FlatStep) → IsEnding x t d ends → IsMoverOf d width mover →
    Arrives x t m width ends (length ends.stops) found → MakesArrived m n d ends.failed mover last found step →
    MakesStep t n (Finishes x t n d ends mover last) step
finishes x t m n d ends width mover last None step ending moves arrives made =
    finishes_nowhere x t m n d ends width mover last step ending arrives made
finishes x t m n d ends width mover last (Some a) step ending moves arrives made =
    finishes_somewhere x t m n d ends width mover last a step ending moves arrives made
