use Rattle.std.proofs.Common.{List, All, length, sym, arith}
use Rattle.std.proofs.lemmas.List.{take_all}
use Rattle.std.proofs.lemmas.List.Elements.{All-same}
use Rattle.tm_game_bits.specs.Diagrams.{KnowsStep}
use Rattle.test_game.proofs.forcing.known.knows_steps.Goals as goal

pub returns : goal.returns
returns c = λ passed.
    let ends = c.loop-step.auto.step-index-end in
    let last = c.loop-step-test.false in
    All-same (KnowsStep c.args.dd.now.table) c.args.steps.now _
    (sym (take_all c.loop-step.step-index c.args.steps.now (omega (arith, ends, last)))) c.loop-step.invariant
