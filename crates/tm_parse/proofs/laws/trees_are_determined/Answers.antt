use Rattle.tm_parse.proofs.DerivedDecls.{one_tree}
use Rattle.tm_parse.proofs.laws.trees_are_determined.Goals as goal

pub returns : goal.returns
returns c = λ text tokens one other a b. one_tree a b
