-- Guarded updates stay what they are where terms are added.
use Rattle.std.proofs.Common.{◌≡◌, ℕ, ◌+◌, ◌<◌, ◌^◌, ◌==◌, Bool, List, [], ◌∷◌, Option, length, map, get_or, refl, sym, ap, ◌∙◌, subst}
use Rattle.std.specs.Prelude.{if◌then◌else◌}
use Rattle.std.specs.List.{AllZip, range_with_len}
use Rattle.tm_syntax.specs.Design.{DesignTree}
use Rattle.tm_term.specs.declared.term.Term.TheVariants.{Input}
use Rattle.tm_term.specs.declared.term.TermId.{TermId}
use Rattle.tm_term.specs.Table.{Table}
use Rattle.tm_term.specs.Value.{AreInputs, value_of, Extends}
use Rattle.tm_term.proofs.Growth.{known_term}
use Rattle.tm_sem.specs.declared.state.Move.{Move}
use Rattle.tm_sem.specs.declared.state.Outcome.TheVariants.{Next, Error, NoOutcome}
use Rattle.tm_sem.specs.Fairness.{conditions}
use Rattle.tm_sem.specs.State.{StateData}
use Rattle.tm_sem.specs.StateBits.{state_widths}
use Rattle.tm_sem.specs.Step.{Step}
use Rattle.tm_flat.specs.Flat.{FlatTerms, StepTerms}
use Rattle.tm_flat.specs.Inputs.{input_values, state_from}
use Rattle.tm_flat.specs.IsFlat.{IsFairTerm, IsFlat, IsGoalTerm, IsStateTerm, location_numbers, process_numbers}
use Rattle.tm_flat.specs.Steps.{AreTerms, IsInput, IsProcessStep, IsTaskStep, IsTerm, LeavesInputs, Tells, told_outcome}

-- what goes along with a list goes along in a weaker way
pub zip_weaker : {X Y : Type 0} → (R Q : X → Y → Type 0) → ((x : X) (y : Y) → R x y → Q x y) → (xs : List X)
    (ys : List Y) → AllZip R xs ys → AllZip Q xs ys
zip_weaker R Q to [] [] all = all
zip_weaker R Q to [] (y ∷ ys) all = absurd all
zip_weaker R Q to (x ∷ xs) [] all = absurd all
zip_weaker R Q to (x ∷ xs) (y ∷ ys) all = (to x y all.0, zip_weaker R Q to xs ys all.1)

module _ (t u : Table) (e : Extends t u) (d : DesignTree) where
  term_kept : (width : ℕ) (id : TermId) → IsTerm t width id → IsTerm u width id
  term_kept width id is = (e.known id is.0, e.widths id is.0 ∙ is.1)

  terms_kept : (step : StepTerms) → AreTerms t d step → AreTerms u d step
  terms_kept step are = record {
    legal = term_kept 1 step.legal are.legal;
    error = term_kept 1 step.error are.error;
    next = zip_weaker (IsTerm t) (IsTerm u) term_kept (state_widths d) step.next are.next;
  }

  values_kept : (v : List ℕ) (ws : List ℕ) (ids : List TermId) → AllZip (IsTerm t) ws ids →
      map (value_of u v) ids ≡ map (value_of t v) ids
  values_kept v [] [] all = refl
  values_kept v [] (id ∷ ids) all = absurd all
  values_kept v (w ∷ ws) [] all = absurd all
  values_kept v (w ∷ ws) (id ∷ ids) all =
      let first = e.values v id all.0.0 in
      let rest = values_kept v ws ids all.1 in
      (λ i. first i ∷ rest i)

  outcome_kept : (step : StepTerms) → AreTerms t d step → (values : List ℕ) →
      told_outcome u d values step ≡ told_outcome t d values step
  outcome_kept step are values =
      let legal = e.values values step.legal are.legal.0 in
      let error = e.values values step.error are.error.0 in
      let next = values_kept values (state_widths d) step.next are.next in
      λ i. if legal i == 0
      then NoOutcome
      else (if error i == 0 then Next (state_from d (next i)) else Error)

  tells_kept : (step : StepTerms) (s : StateData) (move : Move) (arguments : List ℕ) → AreTerms t d step →
      Tells t d step s move arguments → Tells u d step s move arguments
  tells_kept step s move arguments are tells = record {
    outcomes = λ bits are_bits some.
        let same = outcome_kept step are (input_values s bits arguments) in
        let found = tells.outcomes bits are_bits (λ none. some (same ∙ none)) in
        (found.0, subst (Step d s move found.0) (sym same) found.1);
    all = λ choices o some made.
        let found = tells.all choices o some made in
        (found.0, found.1, outcome_kept step are (input_values s found.0 arguments) ∙ found.2);
  }

  input_kept : (i : ℕ) (id : TermId) → IsInput t i id → IsInput u i id
  input_kept i id is = e.terms id (known_term t id (Input i) is) ∙ is

  leaves_kept : (writes : ℕ → Bool) (mover : Option ℕ) (step : StepTerms) → LeavesInputs t d writes mover step →
      LeavesInputs u d writes mover step
  leaves_kept writes mover step leaves = record {
    variables = λ v id inside none at. input_kept v id (leaves.variables v id inside none at);
    places = λ p id inside other at. input_kept (length d.vars + p) id (leaves.places p id inside other at);
  }

  pub process_kept : (p k : ℕ) (step : StepTerms) → IsProcessStep t d p k step → IsProcessStep u d p k step
  process_kept p k step is = record {
    terms = terms_kept step is.terms;
    tells = λ s arguments valid at bits. tells_kept step s _ arguments is.terms (is.tells s arguments valid at bits);
    leaves = leaves_kept _ _ step is.leaves;
  }

  pub task_kept : (n : ℕ) (step : StepTerms) → IsTaskStep t d n step → IsTaskStep u d n step
  task_kept n step is = record {
    terms = terms_kept step is.terms;
    tells = λ s callee arguments valid task bits.
        tells_kept step s _ arguments is.terms (is.tells s callee arguments valid task bits);
    leaves = λ callee task. leaves_kept _ _ step (is.leaves callee task);
  }

  goal_kept : (g : ℕ) (id : TermId) → IsGoalTerm t d g id → IsGoalTerm u d g id
  goal_kept g id is = record {
    term = term_kept 1 id is.term;
    holds = λ s choices arguments valid these those.
        e.values (input_values s choices arguments) id is.term.0 ∙ is.holds s choices arguments valid these those;
  }

  fair_kept : (i : ℕ) (id : TermId) → IsFairTerm t d i id → IsFairTerm u d i id
  fair_kept i id is = record {
    term = term_kept 1 id is.term;
    holds = λ s arguments valid those. (
      λ fair choices these.
          e.values (input_values s choices arguments) id is.term.0
          ∙ (is.holds s arguments valid those).0 fair choices these,
      λ all.
          (is.holds s arguments valid those).1
          (λ choices these. sym (e.values (input_values s choices arguments) id is.term.0) ∙ all choices these),
    );
  }

  inputs_back : (values : List ℕ) → AreInputs u values → AreInputs t values
  inputs_back values are = record {
    count = are.count ∙ ap length e.inputs;
    in_range = λ i below.
        subst (λ (ws : List ℕ). get_or values i 0 < 2 ^ get_or ws i 0) e.inputs (are.in_range i below);
  }

  state_kept : (IsSuch : StateData → Type 0) (id : TermId) → IsStateTerm t d IsSuch id → IsStateTerm u d IsSuch id
  state_kept IsSuch id is = record {
    term = term_kept 1 id is.term;
    holds = λ values are.
        let same = e.values values id is.term.0 in
        let was = is.holds values (inputs_back values are) in
        (λ one. was.0 (sym same ∙ one), λ such. same ∙ was.1 such);
  }

  -- guarded updates along with terms that are added
  pub flat_kept : (f : FlatTerms) → IsFlat t d f → IsFlat u d f
  flat_kept f is = record {
    inputs = e.inputs ∙ is.inputs;
    widths = is.widths;
    magic = is.magic;
    processes = zip_weaker (λ p steps. AllZip (IsProcessStep t d p) (location_numbers d p) steps)
        (λ p steps. AllZip (IsProcessStep u d p) (location_numbers d p) steps)
        (λ p steps all. zip_weaker (IsProcessStep t d p) (IsProcessStep u d p) (process_kept p) (location_numbers d p)
        steps all) (process_numbers d) f.processes is.processes;
    tasks = zip_weaker (IsTaskStep t d) (IsTaskStep u d) task_kept (range_with_len 0 (length d.tasks)) f.tasks is.tasks;
    parameters = is.parameters;
    narrow = is.narrow;
    goals = zip_weaker (IsGoalTerm t d) (IsGoalTerm u d) goal_kept (range_with_len 0 (length d.goals)) f.goals is.goals;
    fairs = zip_weaker (IsFairTerm t d) (IsFairTerm u d) fair_kept (range_with_len 0 (length (conditions d))) f.fairs
        is.fairs;
    initial = state_kept _ f.initial is.initial;
    valid = state_kept _ f.valid is.valid;
  }
