-- What the code's structured drivers are as plain data.
use Rattle.std.specs.Prelude.{List, map}
use Rattle.tm_cir.specs.View.{num_tree, truth_tree}
use Rattle.tm_struct.specs.declared.program.Tree.{Tree}
use Rattle.tm_struct.specs.declared.program.Tree.TheVariants.{If', Call, Leave, Go, Idle}
use Rattle.tm_struct.specs.declared.program.Structured.{Structured}
use Rattle.tm_struct.specs.Tree.{ActionTree, choose, call, leave, go, idle, ProgramTree}

-- what a function does
abbrev pub action_tree : Tree → ActionTree
action_tree (If' t _ a _ b) = choose (truth_tree t) (action_tree a) (action_tree b)
action_tree (Call task args) = call task (map num_tree args.items)
action_tree (Leave p) = leave p
action_tree (Go k) = go k
action_tree Idle = idle

-- what several functions do
abbrev pub action_trees : List Tree → List ActionTree
action_trees ts = map action_tree ts

-- a driver
abbrev pub program_tree : Structured → ProgramTree
program_tree p = record { functions = action_trees p.functions.items; main = action_tree p.main }
