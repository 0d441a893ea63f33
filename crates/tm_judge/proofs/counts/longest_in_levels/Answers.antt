use Rattle.std.proofs.Common.{◌≡◌, ◌+◌, drop, length, map, max, rules, sym, ap, ◌∙◌, arith}
use Rattle.tm_judge.specs.Chains.{greatest, longest_in}
use Rattle.tm_judge.proofs.Chains.{greatest_more, greatest_seen}
use Rattle.tm_judge.proofs.counts.longest_in_levels.Goals as goal

pub loop-level-preserved : goal.loop-level-preserved
loop-level-preserved c =
    let seen : c.level-item.result.chains ≡ map (λ r. r.items) c.deref.result.now = search rules in
    let counted : c.longest_of.result ≡ longest_in c.level-item.result =
    c.longest_of.ensures
    ∙ sym (ap (greatest length) seen ∙ greatest_seen (λ r. r.items) length c.deref.result.now) in
    let most : c.max-most.result ≡ max c.loop-level.most c.longest_of.result = search rules in
    ap (λ k. max k (greatest longest_in (drop (c.loop-level.level-index + 1) c.args.levels.now))) most
    ∙ greatest_more longest_in c.args.levels.now c.loop-level.level-index c.loop-level.most c.longest_of.result
    c.level-item.result (omega (arith, c.loop-level-test.true)) c.level-item.is counted c.loop-level.invariant
