use Rattle.std.proofs.Common.{◌≡◌, ◌++◌, drop}
use Rattle.tm_syntax.specs.Design.View.{design_tree}
use Rattle.tm_struct.specs.View.{action_trees}
use Rattle.tm_struct.specs.Layout.{functions_text}
use Rattle.tm_struct.proofs.printer.push_functions.Given as goal

abbrev pub invariant-loop-number : goal.invariant-loop-number
invariant-loop-number l =
    l.text.items ++ functions_text (design_tree l.design) l.number (action_trees (drop l.number l.functions))
    ≡ l.initial.text.items ++ functions_text (design_tree l.design) 0 (action_trees l.functions)
