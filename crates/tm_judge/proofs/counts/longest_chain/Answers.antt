use Rattle.std.proofs.Common.{◌≡◌, rules, ap, ◌∙◌}
use Rattle.tm_judge.specs.Chains.{greatest, longest_in}
use Rattle.tm_judge.proofs.Chains.{longest_told}
use Rattle.tm_judge.proofs.counts.longest_chain.Goals as goal

pub returns : goal.returns
returns c =
    let seen : c.deref.result.now ≡ c.args.cert.now.levels = search rules in
    λ d. c.longest_in_levels.ensures ∙ ap (greatest longest_in) seen ∙ longest_told d c.args.cert.now
