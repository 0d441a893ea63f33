use Rattle.tm_verdict.proofs.Shapes.{fairs_shape, goals_shape, levels_shape}
use Rattle.tm_verdict.proofs.set_laws.sets_have_their_shape.Goals as goal

pub returns : goal.returns
returns c = record { goals = goals_shape; fairs = fairs_shape; levels = levels_shape }
