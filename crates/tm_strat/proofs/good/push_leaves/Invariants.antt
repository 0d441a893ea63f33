use Rattle.tm_strat.specs.Shapes.{AreBehind, leaves_of}
use Rattle.tm_strat.proofs.good.push_leaves.Given as goal

abbrev pub invariant-loop-process : goal.invariant-loop-process
invariant-loop-process l = AreBehind l.fn.shapes.items (leaves_of l.process) l.shapes.items
