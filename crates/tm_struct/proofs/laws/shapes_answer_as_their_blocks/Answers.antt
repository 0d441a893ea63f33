use Rattle.tm_struct.proofs.Counting.{has_moves}
use Rattle.tm_struct.proofs.Shapes.{shape_fits, shape_answers}
use Rattle.tm_struct.proofs.laws.shapes_answer_as_their_blocks.Goals as goal

pub returns-clause-fits : goal.returns-clause-fits
returns-clause-fits c = λ d bs p fit shape. shape_fits d bs fit p shape

pub returns-clause-count : goal.returns-clause-count
returns-clause-count c = λ d bs p fit shape. has_moves d bs fit p shape

pub returns-clause-same : goal.returns-clause-same
returns-clause-same c = λ d bs p fit shape s g m. shape_answers d bs fit p shape s g m
