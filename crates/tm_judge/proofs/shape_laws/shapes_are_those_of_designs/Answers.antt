use Rattle.tm_judge.proofs.Numbers.{shapes_agree}
use Rattle.tm_judge.proofs.shape_laws.shapes_are_those_of_designs.Goals as goal

pub returns : goal.returns
returns c = shapes_agree
