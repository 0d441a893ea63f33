-- Either the environment forces the state into a set, or the driver stays in all that the set leaves out.
use Rattle.std.proofs.Common.{◌≡◌, ◌⊎◌, inl, inr, true, false, not, ap, ◌∙◌, subst}
use Rattle.tm_game_bits.specs.Functions.{Assignment, Function, StepFunctions, GameFunctions, after}
use Rattle.tm_game_bits.specs.Forcing.{Forced, IsAllowed, IsCalm, IsGoodForSome, Keeps, Leads, Stays, WithArguments}
use Rattle.tm_game_bits.proofs.Leading.{true_or_false, leads_or_keeps, never_both, good_for_some_or_leads}
use Rattle.tm_game_bits.proofs.Lists.{any_or_all}

module _ (within into : Function) (opposite : (w : Assignment) → within w ≡ not (into w)) (g : GameFunctions)
    (v : Assignment) where
  driver_either : g.valid v ≡ true → IsCalm g within v → Forced g into v ⊎ Stays g within v
  driver_either valid calm =
      elim (true_or_false (g.turn v)) [
        | inr not_so ↦ inr (record { calm = calm; driver = λ turn. absurd (cc) })
        | inl turn ↦ elim (any_or_all (IsGoodForSome g.turn within v)
            (λ (step : StepFunctions).
            (w : Assignment) → WithArguments step v w → IsAllowed g.turn step w → Leads step into w)
            (λ step. good_for_some_or_leads within into opposite g.turn step v) g.driver) [
              | inl good ↦ inr (record { calm = calm; driver = λ h. good })
              | inr all ↦ inl (Forced.by_driver valid turn all)
            ]
      ]

  pub forced_or_stays : g.valid v ≡ true → Forced g into v ⊎ Stays g within v
  forced_or_stays valid =
      elim (true_or_false (into (after g.stutter v))) [
        | inl there ↦ inl (Forced.by_stutter valid there)
        | inr not_so ↦ elim (any_or_all (λ (step : StepFunctions). Leads step into v) (λ step. Keeps step within v)
            (λ step. leads_or_keeps within into opposite step v) g.environment) [
              | inl some ↦ inl (Forced.by_environment valid some)
              | inr all ↦ driver_either valid
                  (record { valid = valid; stutter = opposite (after g.stutter v) ∙ ap not not_so; environment = all })
            ]
      ]

  pub not_forced : Stays g within v → ¬ Forced g into v
  not_forced stays (Forced.by_stutter valid there) =
      let inside = stays.calm.stutter in
      let apart = opposite (after g.stutter v) in
      let turned : not (into (after g.stutter v)) ≡ false = ap not there in
      cc
  not_forced stays (Forced.by_environment valid some) =
      let keeps = subst (λ (step : StepFunctions). Keeps step within v) some.3
      (stays.calm.environment some.0 some.1 some.2) in
      never_both within into opposite some.1 v keeps some.4
  not_forced stays (Forced.by_driver valid turn all) =
      let some = stays.driver turn in
      let leads = subst (λ (step : StepFunctions).
      (w : Assignment) → WithArguments step v w → IsAllowed g.turn step w → Leads step into w) some.3
      (all some.0 some.1 some.2) in
      let good = some.4.2 in
      never_both within into opposite some.1 some.4.0 good.keeps (leads some.4.0 some.4.1 good.allowed)
