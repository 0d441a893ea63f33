use Rattle.std.proofs.lemmas.Result.{IfOk-weaker}
use Rattle.tm_dd.specs.Table.{means}
use Rattle.tm_game_bits.specs.Diagrams.{step_of}
use Rattle.tm_game_bits.specs.Forcing.{Keeps}
use Rattle.tm_game_bits.proofs.StepSets.{and_is}
use Rattle.tm_game_bits.proofs.step.StepDiagrams.keeps_and.Goals as goal

pub returns-clause-answer : goal.returns-clause-answer
returns-clause-answer c =
    IfOk-weaker c.and_once.result _ _
    (λ id x. and_is c.args.dd.now.table c.keeps.new.dd.table c.and_once.new.self.table c.keeps.ensures.extends
    c.and_once.ensures.extends
    (Keeps (step_of c.args.dd.now.table c.args.self.now) (means c.args.dd.now.table c.args.set))
    c.args.other c.in_ok-kept.kept id c.requires.other c.in_ok-kept.ensures.answer x)
    c.and_once.ensures.answer
