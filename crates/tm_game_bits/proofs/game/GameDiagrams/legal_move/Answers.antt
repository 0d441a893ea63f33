use Rattle.std.proofs.lemmas.Result.{IfOk-weaker}
use Rattle.tm_game_bits.proofs.GameSets.{legal_move_is}
use Rattle.tm_game_bits.proofs.game.GameDiagrams.legal_move.Goals as goal

pub returns-clause-answer : goal.returns-clause-answer
returns-clause-answer c =
    IfOk-weaker c.and_once.result _ _
    (λ id x. legal_move_is c.args.dd.now.table c.good.new.dd.table c.and_once.new.self.table c.good.ensures.extends
    c.and_once.ensures.extends c.args.self.now c.requires.game c.args.step.now c.args.set c.in_ok-moves.moves id
    c.in_ok-moves.ensures.answer x)
    c.and_once.ensures.answer
