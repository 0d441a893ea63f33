use Rattle.std.proofs.Common.{◌≡◌, ◌++◌, map, drop}
use Rattle.std.specs.List.{flat_map}
use Rattle.tm_syntax.specs.Tree.View.{process_tree}
use Rattle.tm_syntax.specs.Design.{process_vars}
use Rattle.tm_inst.proofs.vars.push_processes.Given as goal

abbrev pub invariant-loop-process : goal.invariant-loop-process
invariant-loop-process l =
    l.vars.items ++ flat_map (process_vars l.number l.base) (map process_tree (drop l.process-index l.processes))
    ≡ l.initial.vars.items ++ flat_map (process_vars l.number l.base) (map process_tree l.processes)
