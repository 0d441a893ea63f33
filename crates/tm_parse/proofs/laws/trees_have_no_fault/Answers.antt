use Rattle.tm_parse.proofs.Decided.{tree_no_syntax_fault, tree_no_depth_fault}
use Rattle.tm_parse.proofs.laws.trees_have_no_fault.Goals as goal

pub returns-clause-syntax : goal.returns-clause-syntax
returns-clause-syntax c = λ text tokens tree place is fault. tree_no_syntax_fault is fault

pub returns-clause-depth : goal.returns-clause-depth
returns-clause-depth c = λ text tokens tree place is fault. tree_no_depth_fault is fault
