use Rattle.std.proofs.Common.{sym, ap, refl, ◌∙◌}
use Rattle.std.proofs.lemmas.List.{take_all}
use Rattle.std.proofs.lemmas.List.Sums.{fold_more}
use Rattle.tm_dd.specs.Hashed.{mixed}
use Rattle.tm_dd.specs.NodeId.{number_of}
use Rattle.tm_ddops.specs.Parts.{digest}
use Rattle.tm_ddops.proofs.operation.digest.Goals as goal

pub loop-level-init : goal.loop-level-init
unfolding digest
loop-level-init c = refl

pub loop-level-preserved : goal.loop-level-preserved
unfolding digest
loop-level-preserved c =
    c.mixed-digest.ensures
    ∙ (λ i. mixed (c.loop-level.invariant i) (c.from.ensures i) (c.number.ensures i))
    ∙ sym (fold_more (λ number item. mixed number item.0 (number_of item.1)) 0 c.args.parts.now c.loop-level.level-index
    (0, record { 0 = 0 }) c.loop-level-test.true)

pub returns : goal.returns
returns c =
    c.loop-level.invariant ∙ ap digest (take_all c.loop-level.level-index c.args.parts.now c.loop-level-test.false)
