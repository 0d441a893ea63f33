use Rattle.std.proofs.lemmas.Result.{IfOk-weaker}
use Rattle.tm_dd.specs.Table.{means}
use Rattle.tm_game_bits.specs.Diagrams.{step_of}
use Rattle.tm_game_bits.specs.Forcing.{IsGoodForSome}
use Rattle.tm_game_bits.proofs.StepSets.{or_is}
use Rattle.tm_game_bits.proofs.step.StepDiagrams.good_or.Goals as goal

pub returns-clause-answer : goal.returns-clause-answer
returns-clause-answer c =
    IfOk-weaker c.or_once.result _ _
    (λ id x. or_is c.args.dd.now.table c.good_for_some.new.dd.table c.or_once.new.self.table
    c.good_for_some.ensures.extends c.or_once.ensures.extends
    (λ v. IsGoodForSome (means c.args.dd.now.table c.args.turn) (means c.args.dd.now.table c.args.set) v
    (step_of c.args.dd.now.table c.args.self.now))
    c.args.other c.in_ok-moves.moves id c.requires.other c.in_ok-moves.ensures.answer x)
    c.or_once.ensures.answer
