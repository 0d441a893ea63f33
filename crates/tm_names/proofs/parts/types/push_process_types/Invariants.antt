use Rattle.std.proofs.Common.{◌≡◌, ◌++◌, drop}
use Rattle.std.specs.List.{flat_map}
use Rattle.tm_names.specs.Parts.{listed_types}
use Rattle.tm_names.specs.Inner.WrittenTypes.{process_types}
use Rattle.tm_names.proofs.parts.types.push_process_types.Given as goal

abbrev pub invariant-loop-process : goal.invariant-loop-process
invariant-loop-process l =
    listed_types l.types.items ++ flat_map process_types (drop l.process-index l.processes)
    ≡ listed_types l.initial.types.items ++ flat_map process_types l.processes
