use Rattle.tm_flat_moves.proofs.mover.Mover.walk_from.Goals as goal

pub returns : goal.returns
returns c = c.in_ok-left.ensures
