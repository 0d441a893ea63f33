use Rattle.std.proofs.lemmas.Result.{IfOk-weaker}
use Rattle.tm_cir.specs.Answer.{Answers}
use Rattle.tm_cir.specs.View.{trees_of}
use Rattle.tm_sem.specs.Certificates.{MeetsDriver}
use Rattle.tm_strat.proofs.Carrying.{all_known, grown}
use Rattle.tm_strat.proofs.MeetingGrown.{driver_told}
use Rattle.tm_strat.proofs.making.driver.Goals as goal
use Rattle.tm_syntax.specs.Design.View.{design_tree}

pub prepare-requires-clause-sets : goal.prepare-requires-clause-sets
prepare-requires-clause-sets c = all_known c.args.game c.args.iterates.now c.requires.known

pub returns-clause-grows : goal.returns-clause-grows
returns-clause-grows c =
    IfOk-weaker c.build.result _ _
    (λ made more. grown c.args.game made.game (λ base b. more base (c.prepare.ensures.grows base b)))
    c.build.ensures.grows

pub returns-clause-meets : goal.returns-clause-meets
returns-clause-meets c =
    IfOk-weaker c.build.result _ _
    (λ made meets regular can.
    driver_told (design_tree c.args.design.now) c.args.game c.prepare.new.game
    (c.tell.ensures (design_tree c.args.design.now) c.requires.of) c.prepare.ensures.grows regular can
    c.args.iterates.now c.requires.known c.turn-turn.result c.turn-turn.ensures.value
    (c.turn-turn.ensures.states (design_tree c.args.design.now) c.requires.of) c.in-Ok.given.spelling
    c.in-Ok.given.tests.holds.items c.in-Ok.given.goals.items c.in-Ok.ensures.made
    (λ sets. MeetsDriver (design_tree c.args.design.now) (Answers (trees_of made.blocks)) sets)
    meets)
    c.build.ensures.meets
