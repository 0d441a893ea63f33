-- The terms of the conditions of the driver and of processes hold where the conditions do.
use Rattle.std.proofs.Common.{◌≡◌, ◌≢◌, ◌⊎◌, inl, inr, ℕ, ◌+◌, ◌<◌, ◌≤◌, ◌==◌, Bool, true, false, Option, None, Some, List, length, map, replicate, slice_get, slice_index, refl, sym, ap, ◌∙◌, subst, arith, true≢false}
use Rattle.std.specs.Prelude.{◌↔◌, ◌||◌, ◌&&◌, not, nat_lt, MatchOption, if◌then◌else◌}
use Rattle.std.specs.Bool.{then_some}
use Rattle.std.specs.List.{AllZip, list_any, range_with_len}
use Rattle.std.specs.Option.{option_map}
use Rattle.std.proofs.lemmas.Bool.Decides.{nat_tests}
use Rattle.std.proofs.lemmas.Option.{get_or_from_slice_get}
use Rattle.tm_base.specs.Arithmetic.{bit, is_nonzero}
use Rattle.tm_syntax.specs.Design.{DesignTree}
use Rattle.tm_syntax.specs.Design.Locations.{end_number, is_magic_at, rest}
use Rattle.tm_term.specs.declared.term.TermId.{TermId}
use Rattle.tm_term.specs.Table.{Table}
use Rattle.tm_term.specs.Value.{AreInputs, value_of, Extends}
use Rattle.tm_term.proofs.Valued.{Extends-trans}
use Rattle.tm_sem.specs.declared.state.Move.TheVariants.{Leave, Process}
use Rattle.tm_sem.specs.declared.state.Outcome.{Outcome}
use Rattle.tm_sem.specs.declared.state.Outcome.TheVariants.{Next, Error, NoOutcome}
use Rattle.tm_sem.specs.Fairness.{of_driver, of_process}
use Rattle.tm_sem.specs.State.{StateData}
use Rattle.tm_sem.specs.Step.{Comes, IsEnabled, IsState, Step, Work, is_driver_turn, memory_of, stands_at_magic}
use Rattle.tm_flat.specs.Flat.{StepTerms}
use Rattle.tm_flat.specs.Inputs.{AreBits, AreSmall, input_values, input_widths, room, state_from}
use Rattle.tm_flat.specs.IsFlat.{location_numbers}
use Rattle.tm_flat.specs.Steps.{IsProcessStep, move_from, told_outcome}
use Rattle.tm_flat.proofs.InOrder.{are_in_order}
use Rattle.tm_flat.proofs.Ranges.{are_inputs}
use Rattle.tm_flat_exprs.specs.Made.{Makes, MakesTruth, truth_at}
use Rattle.tm_flat_exprs.proofs.Later.{term_along}
use Rattle.tm_flat_states.specs.Actors.{IsConditionTerm, legal_truth}
use Rattle.tm_flat_states.specs.Marks.{MakesSuch}
use Rattle.tm_flat_states.proofs.ConditionTerms.{bit_so, some_bits}
use Rattle.tm_flat_states.proofs.Numbered.{any_same, numbered}

-- whether a number is the one, or a truth does not hold
met_so : (x n : ℕ) (b : Bool) → (x ≡ n) ⊎ (b ≡ false) → bit ((x == n) || not b) ≡ 1
met_so x n b (inl same) = ap (λ t. bit (t || not b)) (equals x n same)
  where
    equals : (x n : ℕ) → x ≡ n → (x == n) ≡ true
    equals x n is = grind (arith, nat_tests)
met_so x n b (inr never) = ap (λ t. bit ((x == n) || not t)) never ∙ either (x == n)
  where
    either : (t : Bool) → bit (t || true) ≡ 1
    either true = refl
    either false = refl

so_met : (x n : ℕ) (b : Bool) → bit ((x == n) || not b) ≡ 1 → (x ≡ n) ⊎ (b ≡ false)
so_met x n false is = inr refl
so_met x n true is = inl (same x n (no_other (x == n) (bit_so ((x == n) || false) is)))
  where
    no_other : (t : Bool) → (t || false) ≡ true → t ≡ true
    no_other true is = refl
    no_other false is = is

    same : (x n : ℕ) → (x == n) ≡ true → x ≡ n
    same x n is = grind (arith, nat_tests)

module _ (t m n : Table) (d : DesignTree) (number : ℕ) (busy : Option TermId) (id : TermId)
    (f : Table → List ℕ → Bool) (found : MakesTruth t m busy f)
    (made : Makes m n 1 id
    (λ u v. bit ((slice_index v (length d.vars + length d.processes) == number) || not (truth_at u v busy)))) where
  -- what the term of a condition says over values of the inputs
  said : (u : Table) → Extends n u → (v : List ℕ) → AreInputs u v →
      value_of u v id ≡ bit ((slice_index v (length d.vars + length d.processes) == number) || not (f u v))
  said u more v are =
      made.value u more v are
      ∙ ap (λ b. bit ((slice_index v (length d.vars + length d.processes) == number) || not b))
      (found.truth u (Extends-trans m n u made.grown more) v are)

  module _ (small : AreSmall d) (inputs : t.inputs ≡ input_widths d) where
    later : (u : Table) → Extends n u → u.inputs ≡ input_widths d
    later u more = more.inputs ∙ made.grown.inputs ∙ found.grown.inputs ∙ inputs

    -- and over those of a valid state
    at_state : (u : Table) → Extends n u → (s : StateData) (choices arguments : List ℕ) → IsState d s →
        AreBits choices → AreBits arguments →
        value_of u (input_values s choices arguments) id
        ≡ bit ((s.last == number) || not (f u (input_values s choices arguments)))
    at_state u more s choices arguments valid bits those =
        said u more (input_values s choices arguments)
        (are_inputs d small u s choices arguments (later u more) valid bits those)
        ∙ ap (λ k. bit ((k == number) || not (f u (input_values s choices arguments))))
        (are_in_order d s choices arguments valid bits).last

    -- ---- the driver's
    turn_at : (s : StateData) (choices arguments : List ℕ) → IsState d s → AreBits choices →
        list_any (λ p. is_magic_at d p (slice_index (input_values s choices arguments) (length d.vars + p)))
        (range_with_len 0 (length d.processes))
        ≡ is_driver_turn d s
    turn_at s choices arguments valid bits =
        any_same (λ p. is_magic_at d p (slice_index (input_values s choices arguments) (length d.vars + p)))
        (stands_at_magic d s) 0 (length d.processes) (λ k below.
        let at : 0 + k ≡ k = omega arith in
        subst (λ p. is_magic_at d p (slice_index (input_values s choices arguments) (length d.vars + p))
        ≡ stands_at_magic d s p) (sym at)
        (ap (is_magic_at d k) ((are_in_order d s choices arguments valid bits).places k below)))

    pub driver_told : number ≡ 1 →
        ((u : Table) (v : List ℕ) → f u v ≡ list_any (λ p. is_magic_at d p (slice_index v (length d.vars + p)))
        (range_with_len 0 (length d.processes))) →
        MakesSuch t n (λ u id. IsConditionTerm u d of_driver id) id
    driver_told one turns = record {
      grown = Extends-trans t m n found.grown made.grown;
      sound = made.sound;
      is = λ u more. record {
        term = term_along n u 1 id more made.term;
        holds = λ s arguments valid those.
            let value = λ (choices : List ℕ) (bits : AreBits choices).
            at_state u more s choices arguments valid bits those
            ∙ (λ i. bit ((s.last == one i)
            || not ((turns u (input_values s choices arguments) ∙ turn_at s choices arguments valid bits) i))) in (
              λ met. λ choices bits. value choices bits ∙ met_so s.last 1 (is_driver_turn d s) met,
              λ all.
                  so_met s.last 1 (is_driver_turn d s)
                  (sym (value (replicate room 0) some_bits) ∙ all (replicate room 0) some_bits),
            );
      };
    }

-- ---- where a step has an outcome
told_none : (t : Table) (d : DesignTree) (v : List ℕ) (step : StepTerms) → (value_of t v step.legal == 0) ≡ true →
    told_outcome t d v step ≡ NoOutcome
told_none t d v step is =
    ap (λ b. if b then NoOutcome else (if value_of t v step.error == 0
    then Next (state_from d (map (value_of t v) step.next)) else Error)) is

-- an outcome that is some
abbrev some_outcome : Table → DesignTree → List ℕ → StepTerms → Bool → Outcome
some_outcome t d v step b = if b then Next (state_from d (map (value_of t v) step.next)) else Error

told_some : (t : Table) (d : DesignTree) (v : List ℕ) (step : StepTerms) → (value_of t v step.legal == 0) ≡ false →
    told_outcome t d v step ≢ NoOutcome
told_some t d v step is none = by (value_of t v step.error == 0) (sym shown ∙ none)
  where
    shown : told_outcome t d v step ≡ some_outcome t d v step (value_of t v step.error == 0)
    shown = ap (λ b. if b then NoOutcome else some_outcome t d v step (value_of t v step.error == 0)) is

    by : (b : Bool) → some_outcome t d v step b ≡ NoOutcome → ⊥
    by true same = absurd (cc)
    by false same = absurd (cc)

not_so : (b : Bool) → not b ≡ true → b ≡ false
not_so false is = refl
not_so true is = sym is

-- a process that stands at a magic block has no step of its own
then_no : {X : Type 0} (a b : Bool) (x : X) → then_some (a && b && not true) x ≡ None
then_no true true x = refl
then_no true false x = refl
then_no false b x = refl

module _ (t u : Table) (d : DesignTree) (p : ℕ) (steps : List StepTerms) (grown : Extends t u)
    (inside : p < length d.processes)
    (are : AllZip (IsProcessStep t d p) (location_numbers d p) steps) (s : StateData) (valid : IsState d s) where
  abbrev place : ℕ
  place = slice_index s.places p

  -- the process stands at one of its locations
  place_within : place < end_number d p + 1
  place_within =
      let there = numbered (λ q k. k ≤ end_number d q) 0 (length d.processes) s.places valid.places p inside in
      let same : place ≡ there.0 = get_or_from_slice_get s.places p there.0 0 there.1 in
      let at : 0 + p ≡ p = omega arith in
      let below : there.0 ≤ end_number d p = subst (λ q. there.0 ≤ end_number d q) at there.2 in
      omega (arith, same, below)

  step_there : (step : StepTerms) × (slice_get steps place ≡ Some step) × IsProcessStep t d p place step
  step_there =
      let there = numbered (IsProcessStep t d p) 0 (end_number d p + 1) steps are place place_within in
      let at : 0 + place ≡ place = omega arith in
      (there.0, there.1, subst (λ k. IsProcessStep t d p k there.0) at there.2)

  abbrev shows : Bool → List ℕ → Bool
  shows magic v =
      truth_at u v (if magic then None else option_map (λ (s : StepTerms). s.legal) (slice_get steps place))

  legal_shown : (v : List ℕ) → shows false v ≡ is_nonzero (value_of t v step_there.0.legal)
  legal_shown v =
      ap (λ (o : Option StepTerms). truth_at u v (option_map (λ (s : StepTerms). s.legal) o)) step_there.1
      ∙ ap is_nonzero (grown.values v step_there.0.legal step_there.2.terms.legal.0)

  module _ (arguments : List ℕ) (those : AreBits arguments) where
    enabled_so : (magic : Bool) → is_magic_at d p place ≡ magic → (choices : List ℕ) → AreBits choices →
        shows magic (input_values s choices arguments) ≡ true → IsEnabled d s p
    enabled_so true is choices bits so = absurd (true≢false (sym so))
    enabled_so false is choices bits so =
        let step = step_there.0 in
        let v = input_values s choices arguments in
        let tells = step_there.2.tells s arguments valid refl those in
        let legal : (value_of t v step.legal == 0) ≡ false =
        not_so (value_of t v step.legal == 0) (sym (legal_shown v) ∙ so) in
        let some = told_some t d v step legal in
        let led = tells.outcomes choices bits some in
        let plain : move_from d p place ≡ Process p = ap (λ b. if b then Leave p else Process p) is in (
          led.0,
          told_outcome t d v step,
          subst (λ move. Step d s move led.0 (told_outcome t d v step)) plain led.1,
          some,
        )

    so_enabled : (magic : Bool) → is_magic_at d p place ≡ magic → IsEnabled d s p →
        (choices : List ℕ) × AreBits choices × (shows magic (input_values s choices arguments) ≡ true)
    so_enabled true is goes =
        let none : then_some
        (nat_lt p (length d.processes) && nat_lt place (end_number d p) && not (is_magic_at d p place)) (record {
          items = rest d p place;
          memory = memory_of s;
          mover = Some p;
          last = 2 + p;
        })
        ≡ None =
        ap (λ b. then_some (nat_lt p (length d.processes) && nat_lt place (end_number d p) && not b) (record {
          items = rest d p place;
          memory = memory_of s;
          mover = Some p;
          last = 2 + p;
        })) is
        ∙ then_no (nat_lt p (length d.processes)) (nat_lt place (end_number d p)) (record {
          items = rest d p place;
          memory = memory_of s;
          mover = Some p;
          last = 2 + p;
        }) in
        absurd (goes.3 (subst (λ (o : Option Work). MatchOption o (goes.1 ≡ NoOutcome) (λ w. Comes d s w goes.0 goes.1))
        none goes.2))
    so_enabled false is goes =
        let step = step_there.0 in
        let tells = step_there.2.tells s arguments valid refl those in
        let plain : move_from d p place ≡ Process p = ap (λ b. if b then Leave p else Process p) is in
        let found = tells.all goes.0 goes.1 goes.3
        (subst (λ move. Step d s move goes.0 goes.1) (sym plain) goes.2) in
        let v = input_values s found.0 arguments in (
          found.0,
          found.1,
          legal_shown v ∙ some (value_of t v step.legal == 0) (λ none.
              goes.3 (sym found.2 ∙ told_none t d v step none)),
        )
      where
        some : (b : Bool) → (b ≡ true → ⊥) → not b ≡ true
        some true never = absurd (never refl)
        some false never = refl

-- ---- a process's
module _ (t l n : Table) (d : DesignTree) (p : ℕ) (steps : List StepTerms) (busy : Option TermId) (id : TermId)
    (found : MakesTruth t l busy
    (λ u v. truth_at u v (legal_truth d p steps (slice_index v (length d.vars + p)))))
    (made : Makes l n 1 id
    (λ u v. bit ((slice_index v (length d.vars + length d.processes) == 2 + p) || not (truth_at u v busy))))
    (small : AreSmall d) (inputs : t.inputs ≡ input_widths d) (inside : p < length d.processes)
    (are : AllZip (IsProcessStep t d p) (location_numbers d p) steps) where
  abbrev shown : Table → List ℕ → Bool
  shown u v = truth_at u v (legal_truth d p steps (slice_index v (length d.vars + p)))

  pub process_told : MakesSuch t n (λ u id. IsConditionTerm u d (of_process p) id) id
  process_told = record {
    grown = Extends-trans t l n found.grown made.grown;
    sound = made.sound;
    is = λ u more. record {
      term = term_along n u 1 id more made.term;
      holds = λ s arguments valid those. by u more s arguments valid those;
    };
  }
    where
      by : (u : Table) → Extends n u → (s : StateData) (arguments : List ℕ) → IsState d s → AreBits arguments →
          ((s.last ≡ 2 + p) ⊎ (¬ IsEnabled d s p))
          ↔ ((choices : List ℕ) → AreBits choices → value_of u (input_values s choices arguments) id ≡ 1)
      by u more s arguments valid those =
          let grown : Extends t u =
          Extends-trans t n u (Extends-trans t l n found.grown made.grown) more in
          let place = slice_index s.places p in
          let magic = is_magic_at d p place in
          let value = λ (choices : List ℕ) (bits : AreBits choices).
          at_state t l n d (2 + p) busy id shown found made small inputs u more s choices arguments valid bits those
          ∙ ap (λ k. bit ((s.last == 2 + p)
          || not (truth_at u (input_values s choices arguments) (legal_truth d p steps k))))
          ((are_in_order d s choices arguments valid bits).places p inside) in
          let shows = λ (choices : List ℕ).
          truth_at u (input_values s choices arguments) (legal_truth d p steps place) in (
            λ met. λ choices bits. value choices bits ∙ met_so s.last (2 + p) (shows choices) (turned met choices bits),
            λ all.
                back (so_met s.last (2 + p) (shows (replicate room 0))
                (sym (value (replicate room 0) some_bits) ∙ all (replicate room 0) some_bits)) (λ goes.
                let there = so_enabled t u d p steps grown inside are s valid arguments those magic refl goes in (
                  there.0,
                  there.1,
                  there.2,
                  so_met s.last (2 + p) (shows there.0)
                      (sym (value there.0 there.1) ∙ all there.0 there.1),
                )),
          )
        where
          turned : (s.last ≡ 2 + p) ⊎ (¬ IsEnabled d s p) → (choices : List ℕ) → AreBits choices →
              (s.last ≡ 2 + p) ⊎ (truth_at u (input_values s choices arguments)
              (legal_truth d p steps (slice_index s.places p)) ≡ false)
          turned (inl same) choices bits = inl same
          turned (inr never) choices bits = decided
              (truth_at u (input_values s choices arguments) (legal_truth d p steps (slice_index s.places p))) refl
            where
              decided : (b : Bool) →
                  truth_at u (input_values s choices arguments) (legal_truth d p steps (slice_index s.places p)) ≡ b →
                  (s.last ≡ 2 + p) ⊎ (truth_at u (input_values s choices arguments)
                  (legal_truth d p steps (slice_index s.places p)) ≡ false)
              decided false is = inr is
              decided true is =
                  absurd (never (enabled_so t u d p steps
                  (Extends-trans t n u (Extends-trans t l n found.grown made.grown) more) inside are s valid arguments
                  those (is_magic_at d p (slice_index s.places p)) refl choices bits is))

          back : {A : Type 0} → (s.last ≡ 2 + p) ⊎ A →
              (IsEnabled d s p → (choices : List ℕ) × AreBits choices
              × (truth_at u (input_values s choices arguments) (legal_truth d p steps (slice_index s.places p)) ≡ true)
              × ((s.last ≡ 2 + p) ⊎ (truth_at u (input_values s choices arguments)
              (legal_truth d p steps (slice_index s.places p)) ≡ false))) →
              (s.last ≡ 2 + p) ⊎ (¬ IsEnabled d s p)
          back (inl same) leads = inl same
          back (inr other) leads = moved (s.last == 2 + p) refl
            where
              same_so : (x n : ℕ) → (x == n) ≡ true → x ≡ n
              same_so x n is = grind (arith, nat_tests)

              so_same : (x n : ℕ) → x ≡ n → (x == n) ≡ true
              so_same x n is = grind (arith, nat_tests)

              moved : (b : Bool) → (s.last == 2 + p) ≡ b → (s.last ≡ 2 + p) ⊎ (¬ IsEnabled d s p)
              moved true is = inl (same_so s.last (2 + p) is)
              moved false is = inr (λ goes. apart (leads goes))
                where
                  apart : ((choices : List ℕ) × AreBits choices
                      × (truth_at u (input_values s choices arguments)
                      (legal_truth d p steps (slice_index s.places p)) ≡ true)
                      × ((s.last ≡ 2 + p) ⊎ (truth_at u (input_values s choices arguments)
                      (legal_truth d p steps (slice_index s.places p)) ≡ false))) → ⊥
                  apart there = of there.3 there.2
                    where
                      of : (s.last ≡ 2 + p) ⊎ (truth_at u (input_values s there.0 arguments)
                          (legal_truth d p steps (slice_index s.places p)) ≡ false) →
                          truth_at u (input_values s there.0 arguments)
                          (legal_truth d p steps (slice_index s.places p)) ≡ true → ⊥
                      of (inl same) so = true≢false (sym (so_same s.last (2 + p) same) ∙ is)
                      of (inr none) so = true≢false (sym so ∙ none)
