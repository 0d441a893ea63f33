use Rattle.tm_syntax.specs.Design.View.{design_tree}
use Rattle.tm_verdict.specs.Sets.{levels_of}
use Rattle.tm_synth.proofs.Verdicts.{never_refused}
use Rattle.tm_synth.proofs.environment.judged.Goals as goal

pub unreachable-requires : goal.unreachable-requires
unreachable-requires c =
    let d = design_tree c.args.design.now in
    never_refused d (levels_of d c.args.cert.now) _ _ _ _ c.requires.meets c.in_ok-judge_environment.ensures.only
    c.in-Refused.is
