use Rattle.std.proofs.Common.{◌≡◌, map, take}
use Rattle.tm_scope.specs.Inner.Tables.{process_slots}
use Rattle.tm_scope.proofs.scopes.bodies.bodies_of_processes.Given as goal

abbrev pub invariant-loop-process : goal.invariant-loop-process
invariant-loop-process l = l.bodies.items ≡ map process_slots (take l.process-index l.processes)
