use Rattle.tm_flat_design.proofs.Left.{left_walks}
use Rattle.tm_flat_design.proofs.movable_laws.what_is_left_may_be_walked.Goals as goal

pub returns : goal.returns
returns c = left_walks
