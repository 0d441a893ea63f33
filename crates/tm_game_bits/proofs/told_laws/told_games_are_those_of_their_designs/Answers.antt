use Rattle.tm_game_bits.proofs.Games.{is_game_of}
use Rattle.tm_game_bits.proofs.told_laws.told_games_are_those_of_their_designs.Goals as goal

pub returns : goal.returns
returns c = is_game_of
