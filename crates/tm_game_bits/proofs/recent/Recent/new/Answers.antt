use Rattle.std.proofs.lemmas.List.Elements.{All-replicate}
use Rattle.tm_dd.specs.declared.node.TheConstants.{FALSE}
use Rattle.tm_game_bits.specs.Recent.{IsAnswer}
use Rattle.tm_game_bits.proofs.Remembered.{empty_is}
use Rattle.tm_game_bits.proofs.recent.Recent.new.Goals as goal

pub returns : goal.returns
returns c = λ s g.
    All-replicate (IsAnswer s g) 256 (record { set = FALSE; stays = FALSE }) (empty_is s g)
