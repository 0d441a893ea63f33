use Rattle.tm_syntax.proofs.trees_have_one_fault.Goals as goal
use Rattle.tm_syntax.proofs.Faults.{tree_faults_agree}

pub returns : goal.returns
returns c = tree_faults_agree
