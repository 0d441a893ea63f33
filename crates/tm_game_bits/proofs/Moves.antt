-- A step that is a move leads and keeps exactly where the move does.
use Rattle.std.proofs.Common.{◌≡◌, ◌≢◌, ℕ, Bool, true, false, None, List, [], ◌∷◌, inl, inr, ◌⊎◌, refl, sym, ap, ◌∙◌, subst}
use Rattle.std.specs.Prelude.{if◌then◌else◌}
use Rattle.std.proofs.lemmas.Bool.{true≢false, false_from_ne_true}
use Rattle.tm_game_bits.specs.Forcing as bits
use Rattle.tm_game_bits.specs.Functions.{Assignment, Function, StepFunctions, after}
use Rattle.tm_game_bits.specs.States.{ReadsState}
use Rattle.tm_sem.specs.Forcing.{Leads, errs, lands, Keeps}
use Rattle.tm_sem.specs.declared.state.Move.{Move}
use Rattle.tm_sem.specs.declared.state.Move.TheVariants.{Stutter}
use Rattle.tm_sem.specs.declared.state.Outcome.{Outcome}
use Rattle.tm_sem.specs.declared.state.Outcome.TheVariants.{Next, Error, NoOutcome}
use Rattle.tm_sem.specs.State.{StateData}
use Rattle.tm_sem.specs.Step.{Step, outcome_of, memory_of}
use Rattle.tm_sem.specs.Run.{Ending, Run, none_left}
use Rattle.tm_sem.proofs.Extending.{time_passes}
use Rattle.tm_syntax.specs.Design.{DesignTree}
use Rattle.tm_game_bits.specs.Coding.{Coding, IsCoding, IsIn}
use Rattle.tm_game_bits.specs.GameOf.{outcome_in, IsMoveAt}

-- ---- outcomes by their parts
-- an outcome of a step's truths and of where it leads
abbrev outcome_by : Bool → Bool → StateData → Outcome
outcome_by legal error t = if legal then (if error then Error else Next t) else NoOutcome

by_error : (l e : Bool) (t : StateData) → outcome_by l e t ≡ Error → (l ≡ true) × (e ≡ true)
by_error true true t is = (refl, refl)
by_error true false t is = cc
by_error false e t is = cc

by_next : (l e : Bool) (t u : StateData) → outcome_by l e t ≡ Next u → (l ≡ true) × (e ≡ false) × (t ≡ u)
by_next true true t u is = cc
by_next true false t u is = (refl, refl, cc)
by_next false e t u is = cc

by_legal : (l e : Bool) (t : StateData) → l ≡ true → outcome_by l e t ≢ NoOutcome
by_legal true true t is none = cc
by_legal true false t is none = cc
by_legal false e t is none = true≢false (sym is)

by_some : (l e : Bool) (t : StateData) → outcome_by l e t ≢ NoOutcome → l ≡ true
by_some true e t some = refl
by_some false e t some = absurd (some refl)

is_error : (l e : Bool) (t : StateData) → l ≡ true → e ≡ true → outcome_by l e t ≡ Error
is_error l e t is_l is_e = λ i. outcome_by (is_l i) (is_e i) t

is_next : (l e : Bool) (t : StateData) → l ≡ true → e ≡ false → outcome_by l e t ≡ Next t
is_next l e t is_l is_e = λ i. outcome_by (is_l i) (is_e i) t

module _ (c : Coding) (step : StepFunctions) (w : Assignment) where
  pub some_legal : outcome_in c step w ≢ NoOutcome → step.legal w ≡ true
  some_legal = by_some (step.legal w) (step.error w) (c.state_of (after step.next w))

  pub legal_some : step.legal w ≡ true → outcome_in c step w ≢ NoOutcome
  legal_some = by_legal (step.legal w) (step.error w) (c.state_of (after step.next w))

  told_error : outcome_in c step w ≡ Error → (step.legal w ≡ true) × (step.error w ≡ true)
  told_error = by_error (step.legal w) (step.error w) (c.state_of (after step.next w))

  told_next : (t : StateData) → outcome_in c step w ≡ Next t →
      (step.legal w ≡ true) × (step.error w ≡ false) × (c.state_of (after step.next w) ≡ t)
  told_next t = by_next (step.legal w) (step.error w) (c.state_of (after step.next w)) t

  error_told : step.legal w ≡ true → step.error w ≡ true → outcome_in c step w ≡ Error
  error_told = is_error (step.legal w) (step.error w) (c.state_of (after step.next w))

  next_told : step.legal w ≡ true → step.error w ≡ false →
      outcome_in c step w ≡ Next (c.state_of (after step.next w))
  next_told = is_next (step.legal w) (step.error w) (c.state_of (after step.next w))

-- ---- a stutter
-- what a stutter leads to
pub stutter_leads : (d : DesignTree) (s : StateData) (choices : List ℕ) (o : Outcome) → Step d s Stutter choices o →
    (o ≡ NoOutcome) ⊎ (o ≡ Next (record s { last = 0 }))
stutter_leads d s choices o step = of_run choices step.end step.run step.outcome
  where
    of_run : (cs : List ℕ) (e : Ending) → Run d [] (memory_of s) cs e →
        o ≡ outcome_of d s (record { items = []; memory = memory_of s; mover = None; last = 0 }) e →
        (o ≡ NoOutcome) ⊎ (o ≡ Next (record s { last = 0 }))
    of_run [] e (none_left is) comes =
        inr (comes ∙ ap (outcome_of d s (record { items = []; memory = memory_of s; mover = None; last = 0 })) is)
    of_run (n ∷ ns) e (none_left is) comes =
        inl (comes ∙ ap (outcome_of d s (record { items = []; memory = memory_of s; mover = None; last = 0 })) is)

module _ (d : DesignTree) (c : Coding) (coding : IsCoding d c) (set : Function) (reads : ReadsState c.count set) where
  -- the state of an assignment is in a set where the assignment is
  pub in_is : (v : Assignment) → set (c.assignment_of (c.state_of v)) ≡ set v
  in_is v = reads (c.assignment_of (c.state_of v)) v (coding.one (c.assignment_of (c.state_of v)) v (coding.again v))

  in_told : (v : Assignment) (t : StateData) → c.state_of v ≡ t → set v ≡ true → IsIn c set t
  in_told v t is there = ap (λ (u : StateData). set (c.assignment_of u)) (sym is) ∙ in_is v ∙ there

  in_back : (v : Assignment) (t : StateData) → c.state_of v ≡ t → IsIn c set t → set v ≡ true
  in_back v t is there = sym (in_is v) ∙ ap (λ (u : StateData). set (c.assignment_of u)) is ∙ there

  pub stutter_keeps : (s : StateData) (v : Assignment) → c.state_of v ≡ record s { last = 0 } → set v ≡ true →
      Keeps d (IsIn c set) s Stutter
  stutter_keeps s v is there = record {
    no_error = λ choices step.
        elim (stutter_leads d s choices Error step) as (λ _. ⊥) [ inl none ↦ cc | inr next ↦ cc ];
    ends_within = λ choices t step.
        elim (stutter_leads d s choices (Next t) step) as (λ _. IsIn c set t) [
          | inl none ↦ cc
          | inr next ↦ let same : t ≡ record s { last = 0 } = cc in in_told v t (is ∙ sym same) there
        ];
  }

  pub stutter_kept : (s : StateData) (v : Assignment) → c.state_of v ≡ record s { last = 0 } →
      Keeps d (IsIn c set) s Stutter → set v ≡ true
  stutter_kept s v is keeps =
      in_back v (record s { last = 0 }) is (keeps.ends_within [] (record s { last = 0 }) (time_passes d s))

  -- a stutter leads into the set alone
  pub stutter_into : (s : StateData) (v : Assignment) → c.state_of v ≡ record s { last = 0 } →
      Leads d (IsIn c set) s Stutter → set v ≡ true
  stutter_into s v is (errs choices step) =
      elim (stutter_leads d s choices Error step) as (λ _. set v ≡ true) [ inl none ↦ cc | inr next ↦ cc ]
  stutter_into s v is (lands choices t step there) =
      elim (stutter_leads d s choices (Next t) step) as (λ _. set v ≡ true) [
        | inl none ↦ cc
        | inr next ↦ let same : t ≡ record s { last = 0 } = cc in in_back v t (is ∙ sym same) there
      ]

  pub stutter_lands : (s : StateData) (v : Assignment) → c.state_of v ≡ record s { last = 0 } → set v ≡ true →
      Leads d (IsIn c set) s Stutter
  stutter_lands s v is there =
      lands [] (record s { last = 0 }) (time_passes d s) (in_told v (record s { last = 0 }) is there)

  -- ---- a step that is a move
  module _ (step : StepFunctions) (move : Move) (v : Assignment) (is : IsMoveAt d c step move v) where
    -- what the move does for some choices
    made : (w : Assignment) → bits.WithChoices step v w → step.legal w ≡ true → (o : Outcome) →
        outcome_in c step w ≡ o → (choices : List ℕ) × Step d (c.state_of v) move choices o
    made w chosen legal o same =
        let led = is.outcomes w chosen (legal_some c step w legal) in
        (led.0, subst (Step d (c.state_of v) move led.0) same led.1)

    pub leads_told : bits.Leads step set v → Leads d (IsIn c set) (c.state_of v) move
    leads_told (bits.errs w chosen legal error) =
        let led = made w chosen legal Error (error_told c step w legal error) in
        errs led.0 led.1
    leads_told (bits.lands w chosen legal no_error there) =
        let led = made w chosen legal (Next (c.state_of (after step.next w))) (next_told c step w legal no_error) in
        lands led.0 (c.state_of (after step.next w)) led.1
        (in_told (after step.next w) (c.state_of (after step.next w)) refl there)

    pub leads_back : Leads d (IsIn c set) (c.state_of v) move → bits.Leads step set v
    leads_back (errs choices made) =
        let led = is.all choices Error (λ none. cc) made in
        let parts = told_error c step led.0 led.2 in
        bits.errs led.0 led.1 parts.0 parts.1
    leads_back (lands choices t made there) =
        let led = is.all choices (Next t) (λ none. cc) made in
        let parts = told_next c step led.0 t led.2 in
        bits.lands led.0 led.1 parts.0 parts.1 (in_back (after step.next led.0) t parts.2 there)

    pub keeps_told : bits.Keeps step set v → Keeps d (IsIn c set) (c.state_of v) move
    keeps_told keeps = record {
      no_error = λ choices made.
          let led = is.all choices Error (λ none. cc) made in
          let parts = told_error c step led.0 led.2 in
          true≢false (sym parts.1 ∙ keeps.no_error led.0 led.1 parts.0);
      ends_within = λ choices t made.
          let led = is.all choices (Next t) (λ none. cc) made in
          let parts = told_next c step led.0 t led.2 in
          in_told (after step.next led.0) t parts.2 (keeps.ends_within led.0 led.1 parts.0 parts.1);
    }

    pub keeps_back : Keeps d (IsIn c set) (c.state_of v) move → bits.Keeps step set v
    keeps_back keeps = record {
      no_error = λ w chosen legal.
          false_from_ne_true (step.error w)
          (λ error.
          let led = made w chosen legal Error (error_told c step w legal error) in
          keeps.no_error led.0 led.1);
      ends_within = λ w chosen legal no_error.
          let led = made w chosen legal (Next (c.state_of (after step.next w))) (next_told c step w legal no_error) in
          in_back (after step.next w) (c.state_of (after step.next w)) refl
          (keeps.ends_within led.0 (c.state_of (after step.next w)) led.1);
    }
