use Rattle.std.proofs.Common.{ap, ◌∙◌}
use Rattle.tm_cert.specs.Written.{goal_data}
use Rattle.tm_cert.proofs.Writing.{written_lists, written_more}
use Rattle.tm_cert.proofs.write.goals_value.Goals as goal

pub loop-ranks-preserved : goal.loop-ranks-preserved
loop-ranks-preserved c =
    written_more (λ part. goal_data part.items) c.args.goals.now c.loop-ranks.ranks-index c.ranks-item.result
    c.loop-ranks.items.items _ _
    c.loop-ranks.invariant c.loop-ranks-test.true
    (c.in_ok-goal_value.ensures ∙ ap goal_data c.deref.ensures.value
    ∙ ap (λ part. goal_data part.items) c.ranks-item.is)
    c.in_ok-push.ensures.items

pub returns : goal.returns
returns c =
    written_lists goal_data c.args.goals.now c.loop-ranks.ranks-index c.loop-ranks.items c.loop-ranks.invariant
    c.loop-ranks-test.false
