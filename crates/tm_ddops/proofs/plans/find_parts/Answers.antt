use Rattle.std.proofs.Common.{refl, ap, sym, ◌∙◌}
use Rattle.std.proofs.lemmas.List.{get_or_default}
use Rattle.tm_ddops.specs.declared.plans.Substitution.{Substitution}
use Rattle.tm_ddops.proofs.plans.find_parts.Goals as goal

pub returns-then-are_parts : goal.returns-then-are_parts
returns-then-are_parts c =
    let q : Substitution = c.index-kept-place.result in
    record {
      within = c.loop-place-test.true;
      same = λ d. ap (λ (k : Substitution). k.parts.items)
          (get_or_default c.args.kept.now c.loop-place.place d q c.loop-place-test.true)
          ∙ sym c.deref.ensures.value ∙ c.if-are_parts.ensures refl;
    }
