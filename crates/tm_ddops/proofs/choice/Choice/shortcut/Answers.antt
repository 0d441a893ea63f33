use Rattle.std.proofs.Common.{◌≡◌, inl, inr, true, false, refl, sym, subst, ◌∙◌}
use Rattle.tm_dd.specs.declared.node.TheConstants.{TRUE}
use Rattle.tm_ddops.specs.Choice.{IsChoice, MeansWhere}
use Rattle.tm_ddops.proofs.Choices.{choice_is_test, choice_is_complement}
use Rattle.tm_ddops.proofs.Facts.{same_ids, ids_apart, constant_cases}
use Rattle.tm_ddops.proofs.choice.Choice.shortcut.Goals as goal

pub returns-then-eq-2-clause-answer : goal.returns-then-eq-2-clause-answer
returns-then-eq-2-clause-answer c s reduced k =
    let first : c.under-if_true.result ≡ TRUE = same_ids _ _ c.if-eq-2.ensures in
    elim (constant_cases c.under-if_false.result (c.if-is_constant-3.ensures.0 refl)) [
      | inl second ↦ choice_is_test s c.args.self k
          (subst (λ f. MeansWhere s c.args.self.test true f c.args.self.if_true) first
          (c.under-if_true.ensures.meaning s))
          (subst (λ f. MeansWhere s c.args.self.test false f c.args.self.if_false) second
          (c.under-if_false.ensures.meaning s))
      | inr second ↦ absurd (ids_apart _ _ c.if-eq.ensures (first ∙ sym second))
    ]

pub returns-else-eq-2-clause-answer : goal.returns-else-eq-2-clause-answer
returns-else-eq-2-clause-answer c s reduced k =
    elim (constant_cases c.under-if_true.result (c.if-is_constant-2.ensures.0 refl)) [
      | inl first ↦ elim (constant_cases c.under-if_false.result (c.if-is_constant-3.ensures.0 refl)) [
        | inl second ↦ absurd (ids_apart _ _ c.if-eq.ensures (first ∙ sym second))
        | inr second ↦ subst (IsChoice s c.args.self) (sym c.complement.ensures.value)
            (choice_is_complement s c.args.self k
            (subst (λ f. MeansWhere s c.args.self.test true f c.args.self.if_true) first
            (c.under-if_true.ensures.meaning s))
            (subst (λ f. MeansWhere s c.args.self.test false f c.args.self.if_false) second
            (c.under-if_false.ensures.meaning s)))
      ]
      | inr first ↦ absurd (ids_apart c.under-if_true.result TRUE c.if-eq-2.ensures first)
    ]
