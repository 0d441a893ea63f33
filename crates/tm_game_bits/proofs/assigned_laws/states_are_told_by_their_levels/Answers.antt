use Rattle.tm_game_bits.proofs.Coded.{is_coding}
use Rattle.tm_game_bits.proofs.assigned_laws.states_are_told_by_their_levels.Goals as goal

pub returns : goal.returns
returns c = is_coding
