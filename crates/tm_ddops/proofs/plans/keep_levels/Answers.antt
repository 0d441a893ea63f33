use Rattle.std.proofs.Common.{sym, ap, ◌∙◌}
use Rattle.tm_ddops.specs.declared.plans.Quantifier.{Quantifier}
use Rattle.tm_ddops.proofs.TableLemmas.{pushed}
use Rattle.tm_ddops.proofs.plans.keep_levels.Goals as goal

pub returns-clause-there : goal.returns-clause-there
returns-clause-there c =
    let q : Quantifier = record { levels = c.in_ok-levels.levels; plan = c.args.plan } in
    let last = pushed c.if-len-ge-MOST_QUANTIFIERS.kept.items c.push.new.self.items q c.len-place.result
    c.in_ok-push.ensures.items (sym (c.len-place.ensures ∙ c.if-len-ge-MOST_QUANTIFIERS.kept.ok.0)) in
    record {
      within = last.0;
      same = λ d. ap (λ (k : Quantifier). k.levels.items) (last.1 d) ∙ c.in_ok-levels.ensures.items;
    }
