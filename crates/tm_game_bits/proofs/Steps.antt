-- A step over bits that terms tell is the move that the terms tell.
use Rattle.std.proofs.Common.{◌≡◌, ℕ, Bool, true, false, cond, eqb, List, length, map, refl, sym, ap, ◌∙◌, subst, arith}
use Rattle.std.specs.Prelude.{sum}
use Rattle.tm_base.specs.Arithmetic.{bit}
use Rattle.tm_game_bits.specs.Choices.{AgreeButUnlisted}
use Rattle.tm_game_bits.specs.GameOf.{outcome_in, IsMoveAt}
use Rattle.tm_ddops.specs.Quantified.{AgreeElsewhere}
use Rattle.tm_game_bits.specs.Functions.{Assignment, Function, StepFunctions, after}
use Rattle.tm_term.specs.Table.{Table}
use Rattle.tm_term.specs.Value.{value_of}
use Rattle.tm_syntax.specs.Design.{DesignTree}
use Rattle.tm_sem.specs.declared.state.Move.{Move}
use Rattle.tm_sem.specs.declared.state.Outcome.TheVariants.{Next, Error, NoOutcome}
use Rattle.tm_sem.specs.State.{StateData}
use Rattle.tm_sem.specs.StateBits.{state_widths}
use Rattle.tm_sem.specs.Step.{Step}
use Rattle.tm_flat.specs.Flat.{StepTerms}
use Rattle.tm_flat.specs.Inputs.{room, input_values, state_from}
use Rattle.tm_flat.specs.Steps.{told_outcome, Tells}
use Rattle.tm_game_bits.specs.Order.{IsOrder}
use Rattle.tm_game_bits.specs.Inputs.{arguments_at, choice_level, choices_at}
use Rattle.tm_game_bits.specs.AssignedStates.{coding_of, state_of}
use Rattle.tm_game_bits.proofs.Choices.{chosen_among, mixed-listed, next_values}
use Rattle.tm_game_bits.proofs.Coded.{numbers_tell, told_same}
use Rattle.tm_game_bits.proofs.InputLevels.{are_bits}
use Rattle.tm_game_bits.proofs.StateSets.{mixed, mixed-out}
use Rattle.tm_game_bits.specs.Told.{inputs_at, argument_levels, choice_levels, IsStepOf}
use Rattle.tm_game_bits.proofs.Bits.{bits_agree, range_within, with_bits, with_bits-are, with_bits-elsewhere}

-- an outcome by truths is one by the numbers of truths
by_bits : (l e : Bool) (s : StateData) → cond l (cond e Error (Next s)) NoOutcome
    ≡ cond (eqb (bit l) 0) NoOutcome (cond (eqb (bit e) 0) (Next s) Error)
by_bits true true s = refl
by_bits true false s = refl
by_bits false true s = refl
by_bits false false s = refl

by_numbers : (l e : Bool) (x y : ℕ) (s u : StateData) → x ≡ bit l → y ≡ bit e → s ≡ u →
    cond l (cond e Error (Next s)) NoOutcome ≡ cond (eqb x 0) NoOutcome (cond (eqb y 0) (Next u) Error)
by_numbers l e x y s u is_x is_y same =
    by_bits l e s ∙ (λ i. cond (eqb (sym is_x i) 0) NoOutcome (cond (eqb (sym is_y i) 0) (Next (same i)) Error))

module _ (t : Table) (d : DesignTree) (order : List ℕ) (is : IsOrder (sum (state_widths d)) order) where
  -- with other choices the state and the arguments are the same
  pub state_chosen : (v w : Assignment) → AgreeElsewhere (choice_levels order) v w →
      state_of d order w ≡ state_of d order v
  state_chosen v w chosen =
      told_same d order is w v
      (λ k below.
      chosen k (λ there. let within = range_within (choice_level order) room k there in omega (arith, within.0)))

  arguments_chosen : (v w : Assignment) → AgreeElsewhere (choice_levels order) v w →
      arguments_at order w ≡ arguments_at order v
  arguments_chosen v w chosen =
      bits_agree w v (length order) room
      (λ k above below.
      chosen k (λ there. let within = range_within (choice_level order) room k there in omega (arith, within.0)))

  -- with other arguments the state is the same
  pub state_argued : (v w : Assignment) → AgreeElsewhere (argument_levels order) v w →
      state_of d order w ≡ state_of d order v
  state_argued v w others =
      told_same d order is w v
      (λ k below.
      others k (λ there. let within = range_within (length order) room k there in omega (arith, within.0)))

  module _ (guard : Function) (arguments : List ℕ) (terms : StepTerms) (step : StepFunctions)
      (of : IsStepOf t d order guard arguments terms step) where
    -- where the guard holds, a step leads where its terms tell
    leads_as_told : (w : Assignment) → guard w ≡ true →
        outcome_in (coding_of d order) step w ≡ told_outcome t d (inputs_at d order w) terms
    leads_as_told w holds =
        by_numbers (step.legal w) (step.error w) (value_of t (inputs_at d order w) terms.legal)
        (value_of t (inputs_at d order w) terms.error) (state_of d order (after step.next w))
        (state_from d (map (value_of t (inputs_at d order w)) terms.next)) (of.legal w holds) (of.error w)
        (sym (numbers_tell d order is (after step.next w)) ∙ ap (state_from d) (of.next w))

    -- the inputs with other choices
    inputs_chosen : (v w : Assignment) → AgreeElsewhere (choice_levels order) v w → inputs_at d order w
        ≡ input_values (state_of d order v) (choices_at order w) (arguments_at order v)
    inputs_chosen v w chosen =
        λ i. input_values (state_chosen v w chosen i) (choices_at order w) (arguments_chosen v w chosen i)

    -- choices that are not listed make no difference
    told_listed : (v w : Assignment) → AgreeButUnlisted (choice_levels order) step.choices v w →
        told_outcome t d (inputs_at d order v) terms ≡ told_outcome t d (inputs_at d order w) terms
    told_listed v w agree =
        let next = next_values (choice_levels order) step.choices (λ u. value_of t (inputs_at d order u)) terms of.choices
        v w agree in
        λ i. cond (eqb (of.choices.legal v w agree i) 0) NoOutcome
        (cond (eqb (of.choices.error v w agree i) 0) (Next (state_from d (next i))) Error)

    pub is_move : (move : Move) (v : Assignment) →
        ((w : Assignment) → state_of d order w ≡ state_of d order v → guard w ≡ true) →
        Tells t d terms (state_of d order v) move (arguments_at order v) →
        IsMoveAt d (coding_of d order) step move v
    is_move move v holds tells = record {
      outcomes = λ w given some.
          let same = told v w (chosen v w given) in
          let led = tells.outcomes (choices_at order w) (are_bits w (choice_level order))
          (λ none. some (same ∙ none)) in
          (led.0, subst (Step d (state_of d order v) move led.0) (sym same) led.1);
      all = λ choices o some made.
          let found = tells.all choices o some made in
          let elsewhere = with_bits-elsewhere (choice_level order) found.0 v in (
            mixed step.choices v (with_bits (choice_level order) found.0 v),
            λ k absent. mixed-out step.choices v (with_bits (choice_level order) found.0 v) k absent,
            listed (with_bits (choice_level order) found.0 v) elsewhere
                ∙ told v (with_bits (choice_level order) found.0 v) elsewhere
                ∙ ap (λ bits.
                told_outcome t d (input_values (state_of d order v) bits (arguments_at order v)) terms)
                (with_bits-are (choice_level order) found.0 v found.1)
                ∙ found.2,
          );
    }
      where
        chosen : (v w : Assignment) → AgreeElsewhere step.choices v w → AgreeElsewhere (choice_levels order) v w
        chosen v w given =
            chosen_among (choice_levels order) step.choices (λ u. value_of t (inputs_at d order u)) terms of.choices v w
            given

        told : (u w : Assignment) → AgreeElsewhere (choice_levels order) v w → outcome_in (coding_of d order) step w
            ≡ told_outcome t d (input_values (state_of d order v) (choices_at order w) (arguments_at order v)) terms
        told u w given =
            leads_as_told w (holds w (state_chosen v w given))
            ∙ ap (λ values. told_outcome t d values terms) (inputs_chosen v w given)

        -- with the listed ones of some choices alone
        listed : (w : Assignment) → AgreeElsewhere (choice_levels order) v w →
            outcome_in (coding_of d order) step (mixed step.choices v w) ≡ outcome_in (coding_of d order) step w
        listed w given =
            let here = chosen v (mixed step.choices v w) (λ k absent. mixed-out step.choices v w k absent) in
            let agree = mixed-listed (choice_levels order) step.choices v w given in
            leads_as_told (mixed step.choices v w)
            (holds (mixed step.choices v w) (state_chosen v (mixed step.choices v w) here))
            ∙ told_listed (mixed step.choices v w) w agree
            ∙ sym (leads_as_told w (holds w (state_chosen v w given)))
