use Rattle.tm_flat.proofs.Crossings.{crossing_rows_stop}
use Rattle.tm_flat.proofs.crossing_statements_never_fall_through.Goals as goal

pub returns : goal.returns
returns c = crossing_rows_stop
