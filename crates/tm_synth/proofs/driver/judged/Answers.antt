use Rattle.tm_cir.specs.Answer.{Answers}
use Rattle.tm_cir.specs.View.{trees_of}
use Rattle.tm_syntax.specs.Design.View.{design_tree}
use Rattle.tm_verdict.specs.Sets.{driver_sets}
use Rattle.tm_synth.proofs.Verdicts.{driver_never_refused}
use Rattle.tm_synth.proofs.driver.judged.Goals as goal

pub unreachable-requires : goal.unreachable-requires
unreachable-requires c =
    let d = design_tree c.args.design.now in
    driver_never_refused d (Answers (trees_of c.args.made.now.blocks)) (driver_sets d c.args.made.now.cert) _ _ _ _
    c.requires.meets c.in_ok-judge_driver.ensures.only c.in-Refused.is
