use Rattle.std.proofs.Common.{sym, ap, ◌∙◌}
use Rattle.tm_ddops.specs.declared.plans.Substitution.{Substitution}
use Rattle.tm_ddops.proofs.TableLemmas.{pushed}
use Rattle.tm_ddops.proofs.plans.keep_parts.Goals as goal

pub returns-clause-there : goal.returns-clause-there
returns-clause-there c =
    let q : Substitution = record { parts = c.in_ok-parts.parts; plan = c.args.plan } in
    let last = pushed c.if-len-ge-MOST_SUBSTITUTIONS.kept.items c.push.new.self.items q c.len-place.result
    c.in_ok-push.ensures.items (sym (c.len-place.ensures ∙ c.if-len-ge-MOST_SUBSTITUTIONS.kept.ok.0)) in
    record {
      within = last.0;
      same = λ d. ap (λ (k : Substitution). k.parts.items) (last.1 d) ∙ c.in_ok-parts.ensures.items;
    }
