use Rattle.tm_flat_room.proofs.Moves.{permitted_allowed}
use Rattle.tm_flat_room.proofs.assuming.permitted_moves_are_allowed.Goals as goal

pub returns : goal.returns
returns c = permitted_allowed
