-- A step errs or leads into a set for some choices, or for none.
use Rattle.std.proofs.Common.{◌≡◌, ◌⊎◌, inl, inr, Bool, true, false, ◌&&◌, ◌||◌, not, refl, ap, ◌∙◌}
use Rattle.tm_game_bits.specs.Functions.{Assignment, Function, StepFunctions, after, leading_at}
use Rattle.tm_game_bits.specs.Forcing.{Leads, Keeps, WithChoices, IsAllowed, IsGood, IsGoodForSome, WithArguments}
use Rattle.tm_game_bits.proofs.Deciding.{some_or_all}

-- a truth is one of the two
pub true_or_false : (b : Bool) → (b ≡ true) ⊎ (b ≡ false)
true_or_false true = inl refl
true_or_false false = inr refl

pub not_true : (b : Bool) → ¬ (b ≡ true) → b ≡ false
not_true true h = absurd (h refl)
not_true false h = refl

module _ (step : StepFunctions) (into : Function) (v : Assignment) where
  pub leads_at : (w : Assignment) → WithChoices step v w → leading_at step into w ≡ true → Leads step into v
  leads_at w chosen h = by_cases (step.legal w) (step.error w) (into (after step.next w)) refl refl refl h
    where
      by_cases : (legal error in_set : Bool) → step.legal w ≡ legal → step.error w ≡ error →
          into (after step.next w) ≡ in_set → (legal && (error || in_set)) ≡ true → Leads step into v
      by_cases true true in_set is fails there h = Leads.errs w chosen is fails
      by_cases true false true is fails there h = Leads.lands w chosen is fails there
      by_cases true false false is fails there h = absurd (cc)
      by_cases false error in_set is fails there h = absurd (cc)

  pub leading : Leads step into v → (w : Assignment) × WithChoices step v w × (leading_at step into w ≡ true)
  leading (Leads.errs w chosen legal fails) =
      (w, chosen, λ i. legal i && (fails i || into (after step.next w)))
  leading (Leads.lands w chosen legal fails there) = (w, chosen, λ i. legal i && (fails i || there i))

-- a set, and what it leaves out
module _ (within into : Function) (opposite : (w : Assignment) → within w ≡ not (into w)) (step : StepFunctions)
    (v : Assignment) where
  keeps_at : ((w : Assignment) → WithChoices step v w → leading_at step into w ≡ false) → Keeps step within v
  keeps_at none = record {
    no_error = λ w chosen legal.
        no_error (step.legal w) (step.error w) (into (after step.next w)) legal (none w chosen);
    ends_within = λ w chosen legal fails. opposite (after step.next w)
        ∙ ap not (outside_it (step.legal w) (step.error w) (into (after step.next w)) legal fails (none w chosen));
  }
    where
      no_error : (legal error in_set : Bool) → legal ≡ true → (legal && (error || in_set)) ≡ false → error ≡ false
      no_error true true in_set h none = cc
      no_error true false in_set h none = refl
      no_error false error in_set h none = absurd (cc)

      outside_it : (legal error in_set : Bool) → legal ≡ true → error ≡ false → (legal && (error || in_set)) ≡ false →
          in_set ≡ false
      outside_it true false in_set h k none = none
      outside_it true true in_set h k none = absurd (cc)
      outside_it false error in_set h k none = absurd (cc)

  pub keeps_unless : ¬ Leads step into v → Keeps step within v
  keeps_unless not_so =
      keeps_at (λ w chosen. not_true (leading_at step into w) (λ h. not_so (leads_at step into v w chosen h)))

  pub never_both : Keeps step within v → ¬ Leads step into v
  never_both keeps (Leads.errs w chosen legal fails) = let ok = keeps.no_error w chosen legal in cc
  never_both keeps (Leads.lands w chosen legal fails there) =
      let inside = keeps.ends_within w chosen legal fails in
      let apart = opposite (after step.next w) in
      let turned : not (into (after step.next w)) ≡ false = ap not there in
      cc

  pub leads_or_keeps : Leads step into v ⊎ Keeps step within v
  leads_or_keeps =
      elim (some_or_all (λ w. leading_at step into w ≡ true) (λ w. leading_at step into w ≡ false)
      (λ w. true_or_false (leading_at step into w)) step.choices v) [
        | inl some ↦ inl (leads_at step into v some.0 some.1 some.2)
        | inr all ↦ inr (keeps_at all)
      ]

-- a step of the driver is allowed or not
allowed_or_not : (turn : Function) (step : StepFunctions) (w : Assignment) →
    IsAllowed turn step w ⊎ (¬ IsAllowed turn step w)
allowed_or_not turn step w =
    elim (true_or_false (turn w)) [
      | inl so ↦ elim (some_or_all (λ u. step.legal u ≡ true) (λ u. step.legal u ≡ false)
          (λ u. true_or_false (step.legal u)) step.choices w) [
            | inl some ↦ inl (record { at_turn = so; some = some })
            | inr none ↦ inr (λ a. let here = none a.some.0 a.some.1 in let legal = a.some.2 in cc)
          ]
      | inr not_so ↦ inr (λ a. let turn_is = a.at_turn in cc)
    ]

module _ (within into : Function) (opposite : (w : Assignment) → within w ≡ not (into w)) (turn : Function)
    (step : StepFunctions) where
  -- it is good with its arguments, or leads into what the set leaves out where it is allowed
  good_or_leads : (w : Assignment) → IsGood turn within step w ⊎ (IsAllowed turn step w → Leads step into w)
  good_or_leads w =
      elim (leads_or_keeps within into opposite step w) [
        | inl leads ↦ inr (λ a. leads)
        | inr keeps ↦ elim (allowed_or_not turn step w) [
          | inl allowed ↦ inl (record { allowed = allowed; keeps = keeps })
          | inr not_so ↦ inr (λ a. absurd (not_so a))
        ]
      ]

  -- for some arguments the first, or for all the second
  pub good_for_some_or_leads : (v : Assignment) → IsGoodForSome turn within v step
      ⊎ ((w : Assignment) → WithArguments step v w → IsAllowed turn step w → Leads step into w)
  good_for_some_or_leads v =
      some_or_all (IsGood turn within step) (λ w. IsAllowed turn step w → Leads step into w) good_or_leads
      step.arguments v
