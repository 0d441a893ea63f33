-- Where a move can lead is decided: over all bits it leads where it leads over all lists of choices.
use Rattle.std.proofs.Common.{◌≡◌, ◌≢◌, ℕ, ◌+◌, ◌<◌, ◌≤◌, ◌⊎◌, inl, inr, Bool, true, false, List, length, Some, MatchOption, refl, sym, ap, ◌∙◌, arith, true≢false}
use Rattle.std.specs.Prelude.{◌&&◌, not, nat_lt, slice_index}
use Rattle.std.specs.Bool.{then_some}
use Rattle.std.proofs.lemmas.Bool.{le-ltb}
use Rattle.tm_syntax.specs.Design.{DesignTree}
use Rattle.tm_syntax.specs.Design.Locations.{end_number, rest}
use Rattle.tm_sem.specs.declared.state.Move.{Move}
use Rattle.tm_sem.specs.declared.state.Move.TheVariants as moves
use Rattle.tm_sem.specs.declared.state.Outcome.{Outcome}
use Rattle.tm_sem.specs.declared.state.Outcome.TheVariants.{Next, Error, NoOutcome}
use Rattle.tm_sem.specs.State.{StateData}
use Rattle.tm_sem.specs.Step.{Step, Comes, IsAllowed, Work, is_driver_move, memory_of, stands_at_magic}
use Rattle.tm_sem.specs.Forcing.{Keeps, Leads, errs, lands, IsCalm}
use Rattle.tm_flat.specs.BitStep.{HasRoom, outcome_at}
use Rattle.tm_flat.specs.Inputs.{AreBits, bits_in, room}
use Rattle.tm_flat.proofs.BitSteps.{bits_of_steps, steps_of_bits}
use Rattle.tm_verdict.proofs.Searching.{AreSome, IsFound, IsNowhere, some_or_all, some_or_none}

-- whether an outcome is an error or outside a set
abbrev leads_out : (StateData → Bool) → Outcome → Bool
leads_out set Error = true
leads_out set (Next t) = not (set t)
leads_out set NoOutcome = false

-- whether there is an outcome
abbrev has_outcome : Outcome → Bool
has_outcome Error = true
has_outcome (Next t) = true
has_outcome NoOutcome = false

out_is : (b : Bool) → not b ≡ true → b ≡ false
out_is true is = cc
out_is false is = refl

in_is : (b : Bool) → not b ≡ false → b ≡ true
in_is true is = refl
in_is false is = cc

is_some : (o : Outcome) → o ≢ NoOutcome → has_outcome o ≡ true
is_some Error some = refl
is_some (Next t) some = refl
is_some NoOutcome some = absurd (some refl)

some_is : (o : Outcome) → has_outcome o ≡ true → o ≢ NoOutcome
some_is Error is none = cc
some_is (Next t) is none = cc
some_is NoOutcome is none = true≢false (sym is)

below_or_past : (p n : ℕ) → (p < n) ⊎ (n ≤ p)
below_or_past p n = grind arith

swapped : {A B : Type 0} → A ⊎ B → B ⊎ A
swapped (inl a) = inr a
swapped (inr b) = inl b

-- work whose first test fails is none
no_work : (first second third : Bool) (w : Work) (o : Outcome) (P : Work → Type 0) → first ≡ false →
    MatchOption (then_some (first && second && third) w) (o ≡ NoOutcome) P → o ≡ NoOutcome
no_work true second third w o P is step = absurd (true≢false is)
no_work false second third w o P is step = step

are_bits : (bits : List ℕ) → AreSome room bits → AreBits bits
are_bits bits are = record { count = are.count; each = are.each }

are_some : (bits : List ℕ) → AreBits bits → AreSome room bits
are_some bits are = record { count = are.count; each = are.each }

module _ (d : DesignTree) (fits : HasRoom d) (s : StateData) where
  module _ (move : Move) where
    -- what the move leads to over some bits
    abbrev at_bits : List ℕ → Outcome
    at_bits bits = outcome_at d s move (bits_in bits)

    some_outcome : (test : Outcome → Bool) → test NoOutcome ≡ false → IsFound room (λ bits. test (at_bits bits)) →
        (choices : List ℕ) × (o : Outcome) × Step d s move choices o × (test o ≡ true)
    some_outcome test none found =
        let step = steps_of_bits d s move (bits_in found.0)
        (λ no. true≢false (sym found.2 ∙ ap test no ∙ none)) in
        (step.0, at_bits found.0, step.1, found.2)

    no_outcome : (test : Outcome → Bool) → IsNowhere room (λ bits. test (at_bits bits)) → (choices : List ℕ)
        (o : Outcome) → o ≢ NoOutcome → Step d s move choices o → test o ≡ false
    no_outcome test nowhere choices o some step =
        let found = bits_of_steps d fits s move choices o some step in
        sym (ap test found.2) ∙ nowhere found.0 (are_some found.0 found.1)

    module _ (set : StateData → Bool) where
      out : (choices : List ℕ) (o : Outcome) → Step d s move choices o → leads_out set o ≡ true →
          Leads d (λ t. set t ≡ false) s move
      out choices Error step is = errs choices step
      out choices (Next t) step is = lands choices t step (out_is (set t) is)
      out choices NoOutcome step is = absurd (true≢false (sym is))

      kept : IsNowhere room (λ bits. leads_out set (at_bits bits)) → Keeps d (λ t. set t ≡ true) s move
      kept nowhere = record {
        no_error = λ choices step.
            true≢false (no_outcome (leads_out set) nowhere choices Error (λ none. cc) step);
        ends_within = λ choices t step.
            in_is (set t) (no_outcome (leads_out set) nowhere choices (Next t) (λ none. cc) step);
      }

      pub keeps_or_leads : Keeps d (λ t. set t ≡ true) s move ⊎ Leads d (λ t. set t ≡ false) s move
      keeps_or_leads = by (some_or_none room (λ bits. leads_out set (at_bits bits)))
        where
          by : IsFound room (λ bits. leads_out set (at_bits bits))
              ⊎ IsNowhere room (λ bits. leads_out set (at_bits bits)) →
              Keeps d (λ t. set t ≡ true) s move ⊎ Leads d (λ t. set t ≡ false) s move
          by (inl found) =
              let led = some_outcome (leads_out set) refl found in
              inr (out led.0 led.1 led.2 led.3)
          by (inr nowhere) = inl (kept nowhere)

    pub allowed_or_not : IsAllowed d s move ⊎ (¬ IsAllowed d s move)
    allowed_or_not = of (is_driver_move move) refl (some_or_none room (λ bits. has_outcome (at_bits bits)))
      where
        of : (b : Bool) → is_driver_move move ≡ b →
            IsFound room (λ bits. has_outcome (at_bits bits)) ⊎ IsNowhere room (λ bits. has_outcome (at_bits bits)) →
            IsAllowed d s move ⊎ (¬ IsAllowed d s move)
        of false is decided = inr (λ allowed. true≢false (sym allowed.0 ∙ is))
        of true is (inl found) =
            let led = some_outcome has_outcome refl found in
            inl (is, led.0, led.1, led.2, some_is led.1 led.3)
        of true is (inr nowhere) =
            inr (λ allowed.
            true≢false (sym (is_some allowed.2 allowed.4)
            ∙ no_outcome has_outcome nowhere allowed.1 allowed.2 allowed.4 allowed.3))

  module _ (set : StateData → Bool) where
    -- a process that is not there does nothing
    nobody : (p : ℕ) → length d.processes ≤ p → Keeps d (λ t. set t ≡ true) s (moves.Process p)
    nobody p past = record {
      no_error = λ choices step. let none : Error ≡ NoOutcome = nothing choices Error step in cc;
      ends_within = λ choices t step. let none : Next t ≡ NoOutcome = nothing choices (Next t) step in cc;
    }
      where
        nothing : (choices : List ℕ) (o : Outcome) → Step d s (moves.Process p) choices o → o ≡ NoOutcome
        nothing choices o step =
            no_work (nat_lt p (length d.processes)) (nat_lt (slice_index s.places p) (end_number d p))
            (not (stands_at_magic d s p))
            (record { items = rest d p (slice_index s.places p); memory = memory_of s; mover = Some p; last = 2 + p })
            o (λ w. Comes d s w choices o) (le-ltb p (length d.processes) past) step

    keeps_calm : Keeps d (λ t. set t ≡ true) s moves.Stutter →
        ((p : ℕ) → p < length d.processes → Keeps d (λ t. set t ≡ true) s (moves.Process p)) →
        IsCalm d (λ t. set t ≡ true) s
    keeps_calm stutter processes moves.Stutter is = stutter
    keeps_calm stutter processes (moves.Process p) is = by (below_or_past p (length d.processes))
      where
        by : (p < length d.processes) ⊎ (length d.processes ≤ p) → Keeps d (λ t. set t ≡ true) s (moves.Process p)
        by (inl below) = processes p below
        by (inr past) = nobody p past
    keeps_calm stutter processes moves.Idle is = absurd (true≢false is)
    keeps_calm stutter processes (moves.Leave p) is = absurd (true≢false is)
    keeps_calm stutter processes (moves.Call n args) is = absurd (true≢false is)

    pub calm_or_leads : IsCalm d (λ t. set t ≡ true) s
        ⊎ ((move : Move) × (is_driver_move move ≡ false) × Leads d (λ t. set t ≡ false) s move)
    calm_or_leads =
        by (keeps_or_leads moves.Stutter set)
        (some_or_all (λ p. Leads d (λ t. set t ≡ false) s (moves.Process p))
        (λ p. Keeps d (λ t. set t ≡ true) s (moves.Process p))
        (λ p. swapped (keeps_or_leads (moves.Process p) set)) (length d.processes))
      where
        by : Keeps d (λ t. set t ≡ true) s moves.Stutter ⊎ Leads d (λ t. set t ≡ false) s moves.Stutter →
            ((p : ℕ) × Leads d (λ t. set t ≡ false) s (moves.Process p))
            ⊎ ((p : ℕ) → p < length d.processes → Keeps d (λ t. set t ≡ true) s (moves.Process p)) →
            IsCalm d (λ t. set t ≡ true) s
            ⊎ ((move : Move) × (is_driver_move move ≡ false) × Leads d (λ t. set t ≡ false) s move)
        by (inr leads) processes = inr (moves.Stutter, refl, leads)
        by (inl keeps) (inl found) = inr (moves.Process found.0, refl, found.1)
        by (inl keeps) (inr all) = inl (keeps_calm keeps all)
