use Rattle.tm_dd.specs.Table.{Table}
use Rattle.tm_game_bits.specs.Functions.{GameFunctions}
use Rattle.tm_game_bits.specs.Recent.{AreAnswers, IsAnswer}
use Rattle.tm_game_bits.proofs.recent.Recent.note.Given as goal

abbrev pub invariant-loop-place : goal.invariant-loop-place
invariant-loop-place l =
    (s : Table) (g : GameFunctions) → AreAnswers s g l.fn.self →
    IsAnswer s g (record { set = l.set; stays = l.fn.stays }) → AreAnswers s g l.self × IsAnswer s g l.carried
