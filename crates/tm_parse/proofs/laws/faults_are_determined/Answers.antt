use Rattle.tm_parse.proofs.Decided.{one_syntax_fault, one_depth_fault, not_both_faults}
use Rattle.tm_parse.proofs.laws.faults_are_determined.Goals as goal

pub returns-clause-syntax : goal.returns-clause-syntax
returns-clause-syntax c = λ text tokens one other a b. one_syntax_fault a b

pub returns-clause-depth : goal.returns-clause-depth
returns-clause-depth c = λ text tokens one other a b. one_depth_fault a b

pub returns-clause-not_both : goal.returns-clause-not_both
returns-clause-not_both c = λ text tokens one other a b. not_both_faults a b
