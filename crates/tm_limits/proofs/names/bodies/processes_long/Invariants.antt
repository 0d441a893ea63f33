use Rattle.std.proofs.Common.{◌≡◌, map, take}
use Rattle.std.specs.List.{flat_map}
use Rattle.std.specs.Option.{option_copied}
use Rattle.tm_limits.specs.LongNames.{body_names, first_long}
use Rattle.tm_syntax.specs.Tree.{ProcessTree}
use Rattle.tm_syntax.specs.Tree.View.{process_tree}
use Rattle.tm_limits.proofs.names.bodies.processes_long.Given as goal

abbrev pub invariant-loop-process : goal.invariant-loop-process
invariant-loop-process l =
    option_copied l.first
    ≡ first_long (flat_map (λ (p : ProcessTree). body_names l.sought p.body)
    (map process_tree (take l.process-index l.processes)))
