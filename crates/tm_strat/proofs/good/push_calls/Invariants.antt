use Rattle.tm_strat.specs.Shapes.{AreBehind, calls_of}
use Rattle.tm_strat.proofs.good.push_calls.Given as goal

abbrev pub invariant-loop-task : goal.invariant-loop-task
invariant-loop-task l = AreBehind l.fn.shapes.items (calls_of l.task) l.shapes.items
