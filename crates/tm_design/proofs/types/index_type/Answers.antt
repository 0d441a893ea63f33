use Rattle.tm_design.proofs.types.index_type.Goals as goal

pub returns : goal.returns
returns c = λ d has. c.valued_type.ensures d has
