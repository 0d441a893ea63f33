use Rattle.std.proofs.Common.{◌≡◌, length, map, refl, rules, ap, ◌∙◌, sym}
use Rattle.std.proofs.lemmas.Result.{IfOk-weaker}
use Rattle.tm_judge.proofs.Chains.{lengths_seen}
use Rattle.tm_judge.proofs.counts.ranks_of.Goals as goal

pub returns : goal.returns
returns c =
    let seen : c.args.cert.now.goals ≡ map (λ r. r.items) c.deref.result.now = search rules in
    IfOk-weaker c.lengths.result _ _
    (λ ranks are. are ∙ lengths_seen (λ r. length r.items) (λ r. r.items) (λ r. refl) c.deref.result.now
    ∙ ap (map length) (sym seen))
    c.lengths.ensures
