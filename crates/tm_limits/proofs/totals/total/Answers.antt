use Rattle.std.proofs.Common.{◌<◌, ℕ, length, get_or, map, take, refl, sym, ap, ◌∙◌, arith}
use Rattle.std.proofs.lemmas.List.{take_all}
use Rattle.std.proofs.lemmas.Option.{slice_get-get_or}
use Rattle.tm_scope.proofs.Entries.{at-contained}
use Rattle.tm_limits.specs.Amount.{capped}
use Rattle.tm_limits.specs.Totals.{combined, over}
use Rattle.tm_limits.proofs.TotalSteps.{total_more, total_none}
use Rattle.tm_limits.proofs.totals.total.Goals as goal

pub loop-target-init : goal.loop-target-init
loop-target-init c = λ m count own each. own ∙ ap capped (sym (total_none c.args.combination m))

pub loop-target-preserved : goal.loop-target-preserved
loop-target-preserved c = λ m count own each.
    let by = c.args.combination in
    let targets = c.args.below.now in
    let i : ℕ = c.loop-target.target-index in
    let target : ℕ = get_or targets i 0 in
    let within : i < length targets = omega arith in
    c.combined-total.ensures (combined by m (over by (map count (take i targets)))) (count target)
    (c.loop-target.invariant m count own each)
    (c.count_at.ensures ∙ each target (at-contained targets i target (slice_get-get_or targets i 0 within)))
    ∙ ap capped (sym (total_more by count m targets i target within refl))

pub returns : goal.returns
returns c = λ m count own each.
    c.loop-target.invariant m count own each
    ∙ ap (λ ts. capped (combined c.args.combination m (over c.args.combination (map count ts))))
    (take_all c.loop-target.target-index c.args.below.now (omega arith))
