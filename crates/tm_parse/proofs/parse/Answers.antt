use Rattle.tm_parse.proofs.Decided.{tree_read, one_tree, tree_no_syntax_fault, tree_no_depth_fault, no_tree, same_syntax, same_depth, both_map}
use Rattle.tm_parse.proofs.Taking.{ok_map}
use Rattle.tm_parse.proofs.parse.Goals as goal

pub returns-clause-read : goal.returns-clause-read
returns-clause-read c = ok_map (λ s r. tree_read r) c.tree_or_fault.result c.tree_or_fault.ensures.read

pub returns-clause-tree : goal.returns-clause-tree
returns-clause-tree c = λ tree is.
    both_map (λ s r. one_tree r is) (λ e h. no_tree e h is) c.tree_or_fault.result c.tree_or_fault.ensures.read
    c.tree_or_fault.ensures.faulty

pub returns-clause-syntax : goal.returns-clause-syntax
returns-clause-syntax c = λ place fault.
    both_map (λ s r. tree_no_syntax_fault (tree_read r) fault) (λ e h. same_syntax e h fault) c.tree_or_fault.result
    c.tree_or_fault.ensures.read c.tree_or_fault.ensures.faulty

pub returns-clause-depth : goal.returns-clause-depth
returns-clause-depth c = λ place fault.
    both_map (λ s r. tree_no_depth_fault (tree_read r) fault) (λ e h. same_depth e h fault) c.tree_or_fault.result
    c.tree_or_fault.ensures.read c.tree_or_fault.ensures.faulty
