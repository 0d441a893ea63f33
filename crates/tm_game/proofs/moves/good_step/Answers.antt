use Rattle.std.proofs.Common.{sym, subst}
use Rattle.tm_game_bits.specs.Diagrams.{KnowsStep}
use Rattle.tm_game.proofs.GoodMoves.{good_step_is}
use Rattle.tm_game.proofs.moves.good_step.Goals as goal

pub legal_move-requires-clause-step : goal.legal_move-requires-clause-step
legal_move-requires-clause-step c =
    subst (KnowsStep c.args.dd.now.table) (sym c.index-step.ensures)
    (c.requires.game.driver c.args.index c.index-step.result.now c.requires.index)

pub returns-clause-answer : goal.returns-clause-answer
returns-clause-answer c =
    good_step_is c.args.dd.now.table c.legal_move.new.dd.table c.args.made.now.steps c.args.index
    c.index-step.result.now c.args.set c.in_ok-good.good c.requires.index c.index-step.ensures
    c.in_ok-good.ensures.answer
