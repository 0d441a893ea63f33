use Rattle.tm_syntax.proofs.trees_have_one_design.Goals as goal
use Rattle.tm_syntax.proofs.Designs.{designs_agree}

pub returns : goal.returns
returns c = designs_agree
