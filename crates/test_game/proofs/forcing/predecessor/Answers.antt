use Rattle.std.proofs.Common.{subst, sym}
use Rattle.tm_ddops.specs.Manager.{Diagrams}
use Rattle.tm_game_bits.specs.Diagrams.{game_of}
use Rattle.tm_game_bits.specs.Recent.{AreAnswers}
use Rattle.test_game.proofs.forcing.predecessor.Goals as goal

pub returns-then-not-knows_game : goal.returns-then-not-knows_game
returns-then-not-knows_game c =
    subst (λ (dd : Diagrams). AreAnswers dd.table (game_of dd.table c.args.game.now) c.args.recent.now)
    (sym c.unknown.ensures) c.requires
