use Rattle.std.proofs.Common.{sym, ap, refl, ◌∙◌}
use Rattle.std.proofs.lemmas.List.{take_all}
use Rattle.std.proofs.lemmas.List.Sums.{fold_more}
use Rattle.tm_dd.specs.Hashed.{mixed}
use Rattle.tm_dd.specs.declared.node.TheConstants.{FALSE}
use Rattle.tm_ddops.specs.declared.change.Change.TheVariants.{Becomes}
use Rattle.tm_ddops.specs.Change.{change_number, digest}
use Rattle.tm_ddops.proofs.change.digest.Goals as goal

pub loop-level-init : goal.loop-level-init
unfolding digest
loop-level-init c = refl

pub loop-level-preserved : goal.loop-level-preserved
unfolding digest
loop-level-preserved c =
    c.mixed-digest.ensures
    ∙ (λ i. mixed (c.loop-level.invariant i) (c.from.ensures i) (c.number.ensures i))
    ∙ sym (fold_more (λ number item. mixed number item.0 (change_number item.1)) 0 c.args.list.now
    c.loop-level.level-index (0, Becomes FALSE) c.loop-level-test.true)

pub returns : goal.returns
returns c =
    c.loop-level.invariant ∙ ap digest (take_all c.loop-level.level-index c.args.list.now c.loop-level-test.false)
