use Rattle.std.proofs.Common.{refl, ap, sym, ◌∙◌}
use Rattle.std.proofs.lemmas.List.{get_or_default}
use Rattle.tm_ddops.specs.declared.plans.Quantifier.{Quantifier}
use Rattle.tm_ddops.proofs.plans.find_levels.Goals as goal

pub returns-then-are_levels : goal.returns-then-are_levels
returns-then-are_levels c =
    let q : Quantifier = c.index-kept-place.result in
    record {
      within = c.loop-place-test.true;
      same = λ d. ap (λ (k : Quantifier). k.levels.items)
          (get_or_default c.args.kept.now c.loop-place.place d q c.loop-place-test.true)
          ∙ sym c.deref.ensures.value ∙ c.if-are_levels.ensures refl;
    }
