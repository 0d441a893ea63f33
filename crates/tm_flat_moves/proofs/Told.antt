-- Terms that tell where a move leads whose choices are read as bits tell all that it leads to.
use Rattle.std.proofs.Common.{◌≡◌, ◌≢◌, ◌⊎◌, inl, inr, ℕ, ◌+◌, ◌-◌, ◌<◌, ◌≤◌, ◌==◌, Bool, true, false, Option, None, Some, List, slice_index, refl, sym, ap, ◌∙◌, subst, arith, MatchOption}
use Rattle.std.proofs.lemmas.List.FromFn.{get_or-map-range_with_len}
use Rattle.tm_base.specs.Arithmetic.{bit}
use Rattle.tm_term.specs.Table.{Table}
use Rattle.tm_syntax.specs.Design.{DesignTree}
use Rattle.tm_sem.specs.declared.state.Move.{Move}
use Rattle.tm_sem.specs.declared.state.Outcome.{Outcome}
use Rattle.tm_sem.specs.declared.state.Outcome.TheVariants.{NoOutcome}
use Rattle.tm_sem.specs.Run.{blocked}
use Rattle.tm_sem.specs.State.{StateData}
use Rattle.tm_sem.specs.Step.{Comes, IsState, Step, Work, outcome_of, work}
use Rattle.tm_flat.specs.BitRun.{items_ending}
use Rattle.tm_flat.specs.Fitting.{ItemsFit}
use Rattle.tm_flat.specs.Flat.{StepTerms}
use Rattle.tm_flat.specs.Inputs.{AreBits, AreInOrder, first_choice, input_values, room}
use Rattle.tm_flat.specs.Steps.{Tells, told_outcome}
use Rattle.tm_flat.proofs.BitSteps.{listed, listed_are_bits}
use Rattle.tm_flat.proofs.InOrder.{are_in_order}
use Rattle.tm_flat.proofs.ToList.{bits_to_list}
use Rattle.tm_flat_stmts.specs.Choices.{choice_bit}
use Rattle.tm_flat_moves.proofs.Given.{given_bits}
use Rattle.tm_flat_moves.proofs.InputWidths.{below_or_past}

bit_is : (b : Bool) → (bit b == 1) ≡ b
bit_is true = refl
bit_is false = refl

module _ (t : Table) (d : DesignTree) (s : StateData) (valid : IsState d s) (arguments : List ℕ) where
  -- the choices that are read at a state, with these bits
  abbrev reads_with : List ℕ → ℕ → Bool
  reads_with bits = choice_bit (first_choice d) (input_values s bits arguments)

  -- those past the room are bits of arguments
  abbrev past : ℕ → Bool
  past p = slice_index arguments (p - room) == 1

  reads_listed : (bits : ℕ → Bool) → ((p : ℕ) → room ≤ p → bits p ≡ past p) → (p : ℕ) →
      reads_with (listed room bits) p ≡ bits p
  reads_listed bits same p = of (below_or_past p room)
    where
      order : AreInOrder d s (listed room bits) arguments (input_values s (listed room bits) arguments)
      order = are_in_order d s (listed room bits) arguments valid (listed_are_bits bits)

      of : (p < room) ⊎ ((j : ℕ) × (p ≡ room + j)) → reads_with (listed room bits) p ≡ bits p
      of (inl below) =
          ap (λ x. x == 1)
          (order.choice p below ∙ get_or-map-range_with_len (λ q. bit (bits q)) 0 room p p 0 below (omega arith))
          ∙ bit_is (bits p)
      of (inr behind) =
          let at : p - room ≡ behind.0 = omega (arith, behind.1) in
          ap (λ k. slice_index (input_values s (listed room bits) arguments) (first_choice d + k) == 1) behind.1
          ∙ ap (λ x. x == 1) (order.argument behind.0)
          ∙ ap (λ k. slice_index arguments k == 1) (sym at)
          ∙ sym (same p (omega (arith, behind.1)))

  module _ (step : StepTerms) (move : Move) where
    -- a move that has work to do
    pub tells_work : (w : Work) → work d s move ≡ Some w → ItemsFit room d w.items 0 →
        ((bits : List ℕ) → AreBits bits → told_outcome t d (input_values s bits arguments) step
        ≡ outcome_of d s w (items_ending d (reads_with bits) w.items 0 w.memory)) →
        Tells t d step s move arguments
    tells_work w is fits told = record {
      outcomes = λ bits are there.
          let found = bits_to_list d (reads_with bits) w.items 0 w.memory
          (λ stuck. there (told bits are ∙ ap (outcome_of d s w) stuck)) in (
            found.0,
            subst (λ (o : Option Work).
                MatchOption o (told_outcome t d (input_values s bits arguments) step ≡ NoOutcome)
                (λ v. Comes d s v found.0 (told_outcome t d (input_values s bits arguments) step))) (sym is)
                (record {
                  end = items_ending d (reads_with bits) w.items 0 w.memory;
                  run = found.1;
                  outcome = told bits are;
                }),
          );
      all = λ choices o there led.
          let comes : Comes d s w choices o =
          subst (λ (k : Option Work). MatchOption k (o ≡ NoOutcome) (λ v. Comes d s v choices o)) is led in
          let found = given_bits d room 0 w.items fits w.memory choices comes.end comes.run
          (λ stuck. there (comes.outcome ∙ ap (outcome_of d s w) stuck)) past in
          let reads : reads_with (listed room found.0) ≡ found.0 = (λ i p. reads_listed found.0 found.1 p i) in (
            listed room found.0,
            listed_are_bits found.0,
            told (listed room found.0) (listed_are_bits found.0)
                ∙ ap (λ bits. outcome_of d s w (items_ending d bits w.items 0 w.memory)) reads
                ∙ ap (outcome_of d s w) found.2
                ∙ sym comes.outcome,
          );
    }

    -- one that is not permitted
    pub tells_none : work d s move ≡ None →
        ((bits : List ℕ) → AreBits bits →
        told_outcome t d (input_values s bits arguments) step ≡ NoOutcome) →
        Tells t d step s move arguments
    tells_none is told = record {
      outcomes = λ bits are there. absurd (there (told bits are));
      all = λ choices o there led.
          absurd (there
          (subst (λ (k : Option Work). MatchOption k (o ≡ NoOutcome) (λ v. Comes d s v choices o)) is led));
    }
