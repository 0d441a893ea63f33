use Rattle.std.proofs.Common.{◌≡◌, map, take}
use Rattle.tm_scope.specs.Graph.{graph_of}
use Rattle.tm_scope.specs.Inner.CallGraphs.{callees_at}
use Rattle.tm_scope.proofs.calls.reaching.callee_rows.Given as goal

abbrev pub invariant-loop-caller : goal.invariant-loop-caller
invariant-loop-caller l = graph_of l.rows.items ≡ map (callees_at l.scopes l.tasks) (take l.caller-index l.callers)
