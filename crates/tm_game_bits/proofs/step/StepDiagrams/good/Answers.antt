use Rattle.std.proofs.lemmas.Result.{IfOk-weaker}
use Rattle.tm_game_bits.proofs.Extended.{KnowsStep-Extends}
use Rattle.tm_game_bits.proofs.StepSets.{good_is}
use Rattle.tm_game_bits.proofs.step.StepDiagrams.good.Goals as goal

pub keeps-requires-clause-step : goal.keeps-requires-clause-step
keeps-requires-clause-step c = KnowsStep-Extends _ _ c.allowed.ensures.extends _ c.requires.step

pub returns-clause-answer : goal.returns-clause-answer
returns-clause-answer c =
    IfOk-weaker c.and_once.result _ _
    (λ id x. good_is c.args.dd.now.table c.allowed.new.dd.table c.keeps.new.dd.table c.and_once.new.self.table
    c.allowed.ensures.extends c.keeps.ensures.extends c.and_once.ensures.extends c.args.self.now c.requires.step
    c.args.turn c.args.set c.in_ok-permitted.permitted c.in_ok-kept.kept id c.requires.set
    c.in_ok-permitted.ensures.answer c.in_ok-kept.ensures.answer x)
    c.and_once.ensures.answer
