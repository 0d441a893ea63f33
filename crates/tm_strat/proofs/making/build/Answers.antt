use Rattle.std.proofs.lemmas.Result.{IfOk-weaker}
use Rattle.tm_strat.proofs.MeetingDriver.{driver_meets}
use Rattle.tm_strat.proofs.making.build.Goals as goal
use Rattle.tm_syntax.specs.Design.View.{design_tree}

pub returns-clause-grows : goal.returns-clause-grows
returns-clause-grows c =
    IfOk-weaker c.spelled_driver-made.result _ _ (λ made more base b. more base (c.in-Ok.ensures.grows base b))
    c.spelled_driver-made.ensures.grows

pub returns-clause-meets : goal.returns-clause-meets
returns-clause-meets c =
    IfOk-weaker c.spelled_driver-made.result _ _
    (λ made trees sets serves form.
    driver_meets (design_tree c.args.design.now) sets c.args.game c.args.prepared.spelling
    c.args.prepared.tests.holds.items c.args.prepared.goals.items serves c.in-Ok.given.made.items
    _ trees (c.in-Ok.ensures.good serves.counted) form)
    c.spelled_driver-made.ensures.trees
